use Rattle.std.proofs.Common.{arith, refl, ◌≡◌, ◌∙◌, ◌-◌, ◌*◌, ap, sym}
use Rattle.dcsctp_borrowed.specs.Rewritten.{stream_again}
use Rattle.dcsctp_borrowed.proofs.PutsRewritten.{rest_is}
use Rattle.dcsctp_borrowed.proofs.SameRewritten.{streams_next, differ_tells}
use Rattle.dcsctp_borrowed.proofs.meaning.same_each.Goals as goal

pub returns-then-ne : goal.returns-then-ne
returns-then-ne c =
    let at = 8 * c.loop-i.i in
    let left = c.args.left.now in
    let right = c.args.right.now in
    let next = streams_next c.args.count c.loop-i.i left right c.loop-i-test.true in
    let differ = differ_tells _ _ _ c.ne.ensures in (
      λ is. absurd cc,
      λ e. absurd (differ.0 c.if-ne.true (c.kept_stream.ensures ∙ ap stream_again (rest_is at left)
          ∙ (next.0 (c.loop-i.invariant.0 e)).0
          ∙ sym (c.kept_stream-in-loop-i.ensures ∙ ap stream_again (rest_is at right)))),
    )

pub loop-i-preserved : goal.loop-i-preserved
loop-i-preserved c =
    let at = 8 * c.loop-i.i in
    let left = c.args.left.now in
    let right = c.args.right.now in
    let next = streams_next c.args.count c.loop-i.i left right c.loop-i-test.true in
    let differ = differ_tells _ _ _ c.ne.ensures in
    let same = sym (c.kept_stream.ensures ∙ ap stream_again (rest_is at left))
    ∙ differ.1 c.if-ne.false
    ∙ (c.kept_stream-in-loop-i.ensures ∙ ap stream_again (rest_is at right)) in (
      λ e. (next.0 (c.loop-i.invariant.0 e)).1,
      λ e. c.loop-i.invariant.1 (next.1 (same, e)),
    )

pub returns : goal.returns
returns c = (
  λ is. c.loop-i.invariant.1 (let none : c.args.count - c.loop-i.i ≡ 0 =
      omega (arith, c.loop-i-test.false) in rw none refl),
  λ e. refl,
)
