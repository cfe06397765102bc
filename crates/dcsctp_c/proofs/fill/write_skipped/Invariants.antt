use Rattle.std.proofs.Common.{◌≡◌, ◌≤◌, length, take}
use Rattle.dcsctp_c.specs.{Part.{HoldsSkipped}, Fill.{Fills}}
use Rattle.dcsctp_c.proofs.fill.write_skipped.Given as goal

abbrev pub invariant-loop-index : goal.invariant-loop-index
invariant-loop-index l = record {
  few : l.index ≤ l.count;
  room : l.index ≤ length l.skipped_streams;
  size : length l.skipped_streams ≡ length l.initial.skipped_streams;
  fills : Fills HoldsSkipped (take l.index l.forward.streams) l.initial.skipped_streams
      l.skipped_streams l.index;
}
