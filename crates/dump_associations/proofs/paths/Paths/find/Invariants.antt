-- No path before this one goes this way.
use Rattle.std.proofs.Common.{All, take}
use Rattle.dump_associations.specs.Paths.{Goes}
use Rattle.dump_associations.proofs.paths.Paths.find.Given as goal

abbrev pub invariant-loop-place : goal.invariant-loop-place
invariant-loop-place l = All (λ p. ¬ (Goes l.way p)) (take l.place l.self.list.items)
