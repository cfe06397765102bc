-- Of all items that are looked for, the first is among those that are left.
use Rattle.std.proofs.Common.{◌≡◌, length}
use Rattle.std.specs.Prelude.{find}
use Rattle.dcsctp_receive.specs.Chunks.{items_of, is_wanted}
use Rattle.dcsctp_receive.proofs.items.first.Given as goal

abbrev pub invariant-loop-item : goal.invariant-loop-item
invariant-loop-item l =
    find (is_wanted l.wanted) (items_of l.initial.items)
    ≡ find (is_wanted l.wanted) (items_of l.items)

abbrev pub decreases-loop-item : goal.decreases-loop-item
decreases-loop-item l = length l.items.bytes
