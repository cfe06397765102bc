-- The paths have the packets that they had.
use Rattle.std.proofs.Common.{◌≡◌}
use Rattle.std.specs.Prelude.{vec_len}
use Rattle.dump_associations.specs.Paths.{packets_on, CountAlike}
use Rattle.dump_associations.proofs.paths.notify.Given as goal

abbrev pub invariant-loop-place : goal.invariant-loop-place
invariant-loop-place l =
    (vec_len l.list ≡ vec_len l.initial.list)
    × (packets_on l.list.items ≡ packets_on l.initial.list.items)
    × CountAlike l.initial.list.items l.list.items
