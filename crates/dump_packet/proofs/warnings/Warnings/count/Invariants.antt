-- The first rules are counted, and the others as they were.
use Rattle.std.proofs.Common.{◌≡◌, ℕ, ◌<◌, ◌≤◌, slice_index, if◌then◌else◌}
use Rattle.dump_capture.specs.Number.{one_more}
use Rattle.dcsctp_chunk.specs.Flags.{is_set}
use Rattle.dump_packet.proofs.warnings.Warnings.count.Given as goal

abbrev pub invariant-loop-i : goal.invariant-loop-i
invariant-loop-i l =
    ((k : ℕ) → k < l.i → slice_index l.self.counts k
    ≡ (if is_set l.broken.bits k then one_more (slice_index l.initial.self.counts k)
    else slice_index l.initial.self.counts k))
    × ((k : ℕ) → l.i ≤ k → slice_index l.self.counts k ≡ slice_index l.initial.self.counts k)
