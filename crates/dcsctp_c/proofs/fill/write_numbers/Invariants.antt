use Rattle.std.proofs.Common.{◌≡◌, ◌≤◌, length, take}
use Rattle.dcsctp_c.specs.{Part.{Holds}, Fill.{Fills}}
use Rattle.dcsctp_c.proofs.fill.write_numbers.Given as goal

abbrev pub invariant-loop-index : goal.invariant-loop-index
invariant-loop-index l = record {
  few : l.index ≤ l.count;
  room : l.index ≤ length l.output;
  size : length l.output ≡ length l.initial.output;
  fills : Fills Holds (take l.index l.numbers) l.initial.output l.output l.index;
}
