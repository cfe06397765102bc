-- The items so far took what is gone of the room.
use Rattle.std.proofs.Common.{◌≡◌, ◌+◌, length}
use Rattle.dcsctp_borrowed.specs.Part.{part_of}
use Rattle.dcsctp_receive.specs.{Chunks.{items_of}, Unrecognized.{wholes, added_size}, Handling.{action_by}}
use Rattle.dcsctp_receive.proofs.reported.fit.Given as goal

abbrev pub invariant-loop-item : goal.invariant-loop-item
invariant-loop-item l =
    added_size (wholes (action_by l.handling) (items_of (part_of l.list))) + l.left
    ≡ added_size (wholes (action_by l.handling) (items_of (part_of l.rest))) + l.room

abbrev pub decreases-loop-item : goal.decreases-loop-item
decreases-loop-item l = length l.rest.bytes.now
