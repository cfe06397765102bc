-- There is room for the items of the rest; once these are added, all are.
use Rattle.std.proofs.Common.{ℕ, List, length}
use Rattle.dcsctp_borrowed.specs.Part.{part_of}
use Rattle.dcsctp_receive.specs.{Chunks.{items_of}, Unrecognized.{wholes, AreAdded, HasRoomForAll}, Handling.{action_by}}
use Rattle.dcsctp_receive.proofs.reported.add_all.Given as goal

abbrev pub invariant-loop-item : goal.invariant-loop-item
invariant-loop-item l = record {
  room : HasRoomForAll l.buffer l.size l.start
      (wholes (action_by l.handling) (items_of (part_of l.rest)));
  added : (new : List ℕ) (end : ℕ)
      → AreAdded l.typ l.start (wholes (action_by l.handling) (items_of (part_of l.rest)))
      l.buffer l.size new end
      → AreAdded l.typ l.start (wholes (action_by l.handling) (items_of (part_of l.list)))
      l.fn.buffer l.fn.size new end;
}

abbrev pub decreases-loop-item : goal.decreases-loop-item
decreases-loop-item l = length l.rest.bytes.now
