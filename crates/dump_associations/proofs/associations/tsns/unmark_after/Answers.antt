use Rattle.std.proofs.Common.{◌+◌, ◌-◌, ◌%◌, inl, inr, arith}
use Rattle.std.proofs.lemmas.Bool.{cases_eq}
use Rattle.dump_associations.proofs.associations.tsns.unmark_after.Goals as goal

pub loop-step-preserved : goal.loop-step-preserved
loop-step-preserved c t =
    let was = c.loop-step.invariant t in
    let is = c.unmark.ensures t in
    let step = c.loop-step.step in (
      λ h.
          let both = is.0 h in
          let before = was.0 both.1 in (
            λ k from to one. elim (cases_eq k step) [
              | inl e ↦ both.0 (omega (arith, e, one))
              | inr apart ↦ before.0 k from (omega (arith, to, apart)) one
            ],
            before.1,
          ),
      λ o. is.1 (
        λ one. o.0 step c.loop-step.auto.step (omega arith) (omega (arith, one)),
        was.1 (λ k from to. o.0 k from (omega (arith, to)), o.1),
      ),
    )

pub returns : goal.returns
returns c t =
    let all = c.loop-step.invariant t in (
      λ h.
          let both = all.0 h in (
            λ k from to one. both.0 ((k - 1) % 2048 + 1) (omega arith) (omega (arith, from, to))
                (omega (arith, one, from)),
            both.1,
          ),
      λ o. all.1 (λ k from to. o.0 k from (omega (arith, to)), o.1),
    )
