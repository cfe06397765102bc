use Rattle.std.proofs.Common.{◌≡◌, ◌-◌, ◌≤◌, ◌++◌, take, drop, length}
use Rattle.std.specs.Prelude.{IsUtf8}
use Rattle.dcsctp_report.specs.Printed.{printed}
use Rattle.dcsctp_report.proofs.printed.fill_block.Given as goal

abbrev pub invariant-loop-at : goal.invariant-loop-at
invariant-loop-at l = record {
  size : length l.block ≡ 128;
  within : l.at ≤ length l.bytes;
  room : l.filled ≤ 128;
  begun : l.at ≡ 0 → l.filled ≡ 0;
  utf8 : IsUtf8 (take l.filled l.block);
  so_far : take l.filled l.block ++ printed l.is_word (drop l.at l.bytes)
      ≡ printed l.is_word l.bytes;
}

abbrev pub decreases-loop-at : goal.decreases-loop-at
decreases-loop-at l = length l.bytes - l.at
