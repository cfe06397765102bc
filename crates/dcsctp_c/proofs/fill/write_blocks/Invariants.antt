use Rattle.std.proofs.Common.{◌≡◌, ◌≤◌, length, take}
use Rattle.dcsctp_c.specs.{Part.{Holds}, Fill.{Fills}}
use Rattle.dcsctp_c.proofs.fill.write_blocks.Given as goal

abbrev pub invariant-loop-index : goal.invariant-loop-index
invariant-loop-index l = record {
  few : l.index ≤ l.count;
  room : l.index ≤ length l.blocks;
  size : length l.blocks ≡ length l.initial.blocks;
  fills : Fills Holds (take l.index l.sack.blocks) l.initial.blocks l.blocks l.index;
}
