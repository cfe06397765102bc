use Rattle.std.proofs.Common.{◌≡◌, ◌<◌, ◌≤◌, ℕ, false, drop, length, slice_index_or}
use Rattle.dump_packet.specs.Acknowledged.{IsAcknowledgedBy}
use Rattle.dump_associations.specs.RoundTrips.{AddsEach}
use Rattle.dump_packet.specs.declared.delays.Delays.{Delays}
use Rattle.dump_associations.specs.declared.associations.round_trips.Sent.{Sent}
use Rattle.dump_associations.proofs.associations.round_trips.RoundTrips.end.Given as goal

abbrev pub invariant-loop-place : goal.invariant-loop-place
invariant-loop-place l = record {
  size : length l.self.waiting ≡ 16;
  later : (k : ℕ) (d : Sent) → l.place ≤ k
      → slice_index_or l.self.waiting k d ≡ slice_index_or l.initial.self.waiting k d;
  ended : (k : ℕ) (d : Sent) → k < l.place
      → IsAcknowledgedBy l.acknowledged (slice_index_or l.self.waiting k d).tsn
      → (slice_index_or l.self.waiting k d).is_waiting ≡ false;
  added : (after : Delays)
      → AddsEach l.acknowledged l.nanoseconds l.packet (drop l.place l.initial.self.waiting)
      l.self.delays after
      → AddsEach l.acknowledged l.nanoseconds l.packet l.initial.self.waiting
      l.initial.self.delays after;
  passed : l.self.passed ≡ l.initial.self.passed;
}
