-- The items so far and those of the rest have the size of all, and the list had room for them.
use Rattle.std.proofs.Common.{◌≡◌, ◌+◌, ◌≤◌, length}
use Rattle.std.specs.List.{concat}
use Rattle.dcsctp_borrowed.specs.Part.{part_of}
use Rattle.dcsctp_receive.specs.{Chunks.{items_of}, Unrecognized.{wholes}, Handling.{action_by}}
use Rattle.dcsctp_receive.proofs.reported.ListedWritableItem.value_size.Given as goal

abbrev pub invariant-loop-item : goal.invariant-loop-item
invariant-loop-item l = record {
  same : l.size + length (concat (wholes (action_by l.self.handling) (items_of (part_of l.rest))))
      ≡ length (concat (wholes (action_by l.self.handling)
      (items_of (part_of l.self.list))));
  within : l.size + length l.rest.bytes.now ≤ length l.self.list.bytes.now;
}

abbrev pub decreases-loop-item : goal.decreases-loop-item
decreases-loop-item l = length l.rest.bytes.now
