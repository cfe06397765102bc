-- What is reported of the list is what is reported of the rest.
use Rattle.std.proofs.Common.{◌≡◌, ◌≤◌, length}
use Rattle.dcsctp_borrowed.specs.Part.{part_of}
use Rattle.dcsctp_receive.specs.{Chunks.{items_of}, Unrecognized.{wholes}, Handling.{action_by}}
use Rattle.dcsctp_receive.proofs.reported.next_reported.Given as goal

abbrev pub invariant-loop-item : goal.invariant-loop-item
invariant-loop-item l = record {
  same : wholes (action_by l.handling) (items_of (part_of l.initial.rest))
      ≡ wholes (action_by l.handling) (items_of (part_of l.rest));
  fewer : length l.rest.bytes.now ≤ length l.initial.rest.bytes.now;
}

abbrev pub decreases-loop-item : goal.decreases-loop-item
decreases-loop-item l = length l.rest.bytes.now
