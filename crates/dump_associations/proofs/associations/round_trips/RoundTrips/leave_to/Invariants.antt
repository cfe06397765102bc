use Rattle.std.proofs.Common.{◌≡◌, false, All, take, length}
use Rattle.dump_packet.specs.Serial.{IsAfter}
use Rattle.dump_associations.proofs.associations.round_trips.RoundTrips.leave_to.Given as goal

abbrev pub invariant-loop-sent : goal.invariant-loop-sent
invariant-loop-sent l = record {
  size : length l.sent-items ≡ 16;
  left : All (λ sent. ¬ (IsAfter l.cumulative sent.tsn) → sent.is_waiting ≡ false) (take l.sent-index l.sent-items);
}
