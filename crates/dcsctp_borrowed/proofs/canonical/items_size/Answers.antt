use Rattle.std.proofs.Common.{arith, refl, ap, ◌∙◌}
use Rattle.dcsctp_tlv.specs.{Image.{list_size}}
use Rattle.dcsctp_borrowed.{specs.Rewritten.{item_again}, proofs.ItemsRewritten.{over_none, next_room, over_next, over_all}}
use Rattle.dcsctp_borrowed.proofs.canonical.items_size.Goals as goal

pub loop-value-init : goal.loop-value-init
loop-value-init g c =
    record { over = over_none g.R.Rewrite.again c.args.list.now; small = omega arith }

pub returns-in_default-size : goal.returns-in_default-size
returns-in_default-size g c = λ h.
    let n = next_room g.R.Rewrite.again c.args.list.now c.loop-value.rest.now c.loop-value.end
    c.loop-value.invariant.over (c.in-Ok.ensures.frame.0 refl) h in
    c.in_default-size.ensures (rw c.in-Ok.ensures.value (omega (arith, n, h)))

pub returns-then-end-gt65535 : goal.returns-then-end-gt65535
returns-then-end-gt65535 g c = λ h.
    let n = next_room g.R.Rewrite.again c.args.list.now c.loop-value.rest.now c.loop-value.end
    c.loop-value.invariant.over (c.in-Ok.ensures.frame.0 refl) h in
    let size = rw c.in-Ok.ensures.value at c.in-Some.ensures.1 in
    omega (arith, n, h, size, c.round_up_to_4.ensures, c.if-end-gt65535.true)

pub loop-value-preserved : goal.loop-value-preserved
loop-value-preserved g c =
    let size = rw c.in-Ok.ensures.value at c.in-Some.ensures.1 in
    record {
      over = rw c.in-Ok.ensures.rest (over_next g.R.Rewrite.again c.args.list.now
          c.loop-value.rest.now
          c.loop-value.end c.loop-value.invariant.over (c.in-Ok.ensures.frame.0 refl) _
          (omega (arith, size, c.round_up_to_4.ensures)));
      small = omega (arith, c.if-end-gt65535.false);
    }

pub returns : goal.returns
returns g c =
    let over = c.loop-value.invariant.over in
    let all = over_all g.R.Rewrite.again c.args.list.now c.loop-value.rest.now c.loop-value.end over
    (λ frame. (let ok = c.in_default.ensures.frame.1 frame in cc)) in
    let same = over.size ∙ ap (list_size (item_again g.R.Rewrite.again)) all in
    (omega (arith, same, c.loop-value.invariant.small), same)
