use Rattle.std.proofs.Common.{refl, ◌∙◌, sym}
use Rattle.dcsctp_borrowed.proofs.SameRewritten.{firsts_one, apart, all_none}
use Rattle.dcsctp_borrowed.proofs.meaning.same_items.Goals as goal

pub returns-in_default-split_frame-clause-same : goal.returns-in_default-split_frame-clause-same
returns-in_default-split_frame-clause-same g c = (
  λ is. absurd cc,
  λ e. absurd (apart g.C.Compare.again c.loop-value.one.now c.loop-value.other.now
      (c.in-Ok.ensures.frame.0 refl)
      (λ frame. (let ok = c.in_default-split_frame.ensures.frame.1 frame in cc))
      (c.loop-value.invariant.0 e)),
)

pub loop-value-preserved : goal.loop-value-preserved
loop-value-preserved g c =
    let same = rw (c.in-Ok.ensures.value, c.in-Ok-split_frame.ensures.value) at c.same.ensures in
    let firsts = firsts_one g.C.Compare.again c.loop-value.one.now c.loop-value.other.now
    (c.in-Ok.ensures.frame.0 refl) (c.in-Ok-split_frame.ensures.frame.0 refl) in
    rw (c.in-Ok.ensures.rest, c.in-Ok-split_frame.ensures.rest) (
      λ e. (firsts.0 (c.loop-value.invariant.0 e)).1,
      λ e. c.loop-value.invariant.1 (firsts.1 (same.0 c.if-not-same.false, e)),
    )

pub returns-in-Ok-split_frame-2-clause-same : goal.returns-in-Ok-split_frame-2-clause-same
returns-in-Ok-split_frame-2-clause-same g c = (
  λ is. absurd cc,
  λ e. absurd (apart g.C.Compare.again c.loop-value.other.now c.loop-value.one.now
      (c.in-Ok-split_frame-2.ensures.frame.0 refl)
      (λ frame. (let ok = c.in_default.ensures.frame.1 frame in cc))
      (sym (c.loop-value.invariant.0 e))),
)

pub returns-in-Err-clause-same : goal.returns-in-Err-clause-same
returns-in-Err-clause-same g c = (
  λ is. c.loop-value.invariant.1 (all_none g.C.Compare.again c.loop-value.one.now
      (λ frame. (let ok = c.in_default.ensures.frame.1 frame in cc))
      ∙ sym (all_none g.C.Compare.again c.loop-value.other.now
      (λ frame. (let ok = c.in-Err.ensures.frame.1 frame in cc)))),
  λ e. refl,
)
