-- No path before this one awaits it.
use Rattle.std.proofs.Common.{All, take}
use Rattle.dump_associations.specs.Paths.{Awaits}
use Rattle.dump_associations.proofs.paths.awaiting.Given as goal

abbrev pub invariant-loop-place : goal.invariant-loop-place
invariant-loop-place l = All (λ p. ¬ (Awaits l.asker l.key p)) (take l.place l.list)
