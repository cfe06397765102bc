-- There is room for the items of the rest; once these are put after those so far, all are.
use Rattle.std.proofs.Common.{◌≡◌, ◌+◌, ◌≤◌, length}
use Rattle.std.specs.List.{concat}
use Rattle.dcsctp_tlv.specs.Image.{put}
use Rattle.dcsctp_borrowed.specs.Part.{part_of}
use Rattle.dcsctp_receive.specs.{Chunks.{items_of}, Unrecognized.{wholes}, Handling.{action_by}}
use Rattle.dcsctp_receive.proofs.reported.ListedWritableItem.put_value.Given as goal

abbrev pub invariant-loop-item : goal.invariant-loop-item
invariant-loop-item l = record {
  room : l.at + length (concat (wholes (action_by l.self.handling)
      (items_of (part_of l.rest)))) ≤ length l.output;
  put : put l.output l.at (concat (wholes (action_by l.self.handling)
      (items_of (part_of l.rest))))
      ≡ put l.fn.output l.place (concat (wholes (action_by l.self.handling)
      (items_of (part_of l.self.list))));
}

abbrev pub decreases-loop-item : goal.decreases-loop-item
decreases-loop-item l = length l.rest.bytes.now
