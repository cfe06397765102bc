use Rattle.std.proofs.Common.{◌≡◌, ◌*◌, take, length}
use Rattle.std.specs.Prelude.{All}
use Rattle.dcsctp_report.specs.Hexadecimal.{IsPrintable, digits_of}
use Rattle.dcsctp_report.proofs.hexadecimal.write_block.Given as goal

abbrev pub invariant-loop-i : goal.invariant-loop-i
invariant-loop-i g l = record {
  size : length l.digits ≡ 64;
  front : take (2 * l.i) l.digits ≡ digits_of (take l.i l.block);
  printable : All IsPrintable l.digits;
}
