use Rattle.std.proofs.Common.{ℕ, ◌+◌, ◌<◌, ◌≤◌, ◌↔◌}
use Rattle.dump_associations.specs.Tsns.{IsMarked, HaveOneBit}
use Rattle.dump_associations.proofs.associations.tsns.unmark_after.Given as goal

abbrev pub invariant-loop-step : goal.invariant-loop-step
invariant-loop-step l = (t : ℕ)
    → IsMarked l.seen t ↔ (((k : ℕ) → 1 ≤ k → k < l.step → ¬ (HaveOneBit t (l.fn.last + k)))
    × IsMarked l.fn.seen t)
