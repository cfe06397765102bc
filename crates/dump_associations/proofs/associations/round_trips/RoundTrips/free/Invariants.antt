use Rattle.std.proofs.Common.{All, take}
use Rattle.dump_associations.specs.RoundTrips.{IsFree}
use Rattle.dump_associations.proofs.associations.round_trips.RoundTrips.free.Given as goal

abbrev pub invariant-loop-place : goal.invariant-loop-place
invariant-loop-place l = All (λ sent. ¬ (IsFree sent)) (take l.place l.fn.self.waiting)
