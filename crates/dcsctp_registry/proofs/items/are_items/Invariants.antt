-- What is left decides.
use Rattle.std.proofs.Common.{◌≡◌, length}
use Rattle.dcsctp_registry.specs.Items.{are_items_of}
use Rattle.dcsctp_registry.proofs.items.are_items.Given as goal

abbrev pub invariant-loop-rest : goal.invariant-loop-rest
invariant-loop-rest l =
    are_items_of (length l.bytes) l.bytes ≡ are_items_of (length l.rest) l.rest

abbrev pub decreases-loop-rest : goal.decreases-loop-rest
decreases-loop-rest l = length l.rest
