use Rattle.std.proofs.Common.{◌≡◌, ◌≤◌, length, take}
use Rattle.dcsctp_c.specs.{Part.{Holds}, Fill.{Fills}}
use Rattle.dcsctp_c.proofs.fill.write_duplicates.Given as goal

abbrev pub invariant-loop-index : goal.invariant-loop-index
invariant-loop-index l = record {
  few : l.index ≤ l.count;
  room : l.index ≤ length l.tsns;
  size : length l.tsns ≡ length l.initial.tsns;
  fills : Fills Holds (take l.index l.sack.duplicates) l.initial.tsns l.tsns l.index;
}
