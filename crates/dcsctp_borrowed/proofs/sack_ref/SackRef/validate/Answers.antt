use Rattle.std.proofs.Common.{◌≡◌, List, ◌∷◌, true, false, refl, subst, sym, arith}
use Rattle.dcsctp_chunk.{specs.Apart.{IsApart}, specs.Cover.{AreValid}, specs.declared.sack_chunk.GapAckBlock.{GapAckBlock}, proofs.Runs.{valid_iff}}
use Rattle.dcsctp_borrowed.proofs.sack_ref.SackRef.validate.Goals.{then-block-via-then-block, then-block-via-else-block+then-block-least}
use Rattle.dcsctp_borrowed.proofs.sack_ref.SackRef.validate.Goals as goal

-- the block ends before its start, or starts too early
pub returns-then-block-clause-valid : goal.returns-then-block-clause-valid
returns-then-block-clause-valid c =
    let bs = c.args.self.now.blocks in
    let refused : AreValid bs → ⊥ = λ v.
    let here : IsApart c.loop-block.least (c.in-Some.block ∷ c.next.new.self) = subst
    (λ (left : List GapAckBlock). IsApart c.loop-block.least left) c.in-Some.ensures.steps
    (c.loop-block.invariant.0 ((valid_iff bs).0 v)) in
    let low = here.0 in
    let some = here.1 in
    elim c.then-block.branch [
      | then-block-via-then-block w ↦ let early = w.if-block.true in omega arith
      | then-block-via-else-block+then-block-least w ↦ let early =
          w.if-block-least.true in omega arith
    ] in
    ((λ no. absurd (let h : false ≡ true = no in cc)), (λ v. absurd (refused v)))

pub returns-clause-valid : goal.returns-clause-valid
returns-clause-valid c =
    let bs = c.args.self.now.blocks in
    let none : IsApart c.loop-block.least c.loop-block.block-iterator = subst
    (λ (left : List GapAckBlock). IsApart c.loop-block.least left)
    (sym c.in-None.ensures.steps.0) tt in
    ((λ yes. (valid_iff bs).1 (c.loop-block.invariant.1 none)), (λ v. refl))
