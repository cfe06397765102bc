-- Where processing stops in the rest, it stops in the list, which has other bytes before the rest.
use Rattle.std.proofs.Common.{◌≡◌, ◌≤◌, ◌+◌, ◌-◌, ℕ, length}
use Rattle.std.specs.Option.{option_map}
use Rattle.dcsctp_borrowed.specs.Part.{part_of}
use Rattle.dcsctp_receive.specs.{Chunks.{items_of}, Unrecognized.{stop_offset}, Handling.{action_by}}
use Rattle.dcsctp_receive.proofs.reported.stop_offset.Given as goal

abbrev pub invariant-loop-item : goal.invariant-loop-item
invariant-loop-item l = record {
  same : stop_offset (action_by l.handling) (items_of (part_of l.list))
      ≡ option_map (λ (n : ℕ). (length l.list.bytes.now - length l.rest.bytes.now) + n)
      (stop_offset (action_by l.handling) (items_of (part_of l.rest)));
  fewer : length l.rest.bytes.now ≤ length l.list.bytes.now;
}

abbrev pub decreases-loop-item : goal.decreases-loop-item
decreases-loop-item l = length l.rest.bytes.now
