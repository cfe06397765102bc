use Rattle.std.proofs.Common.{◌≡◌, length}
use Rattle.std.specs.Prelude.{All}
use Rattle.dcsctp_report.specs.Hexadecimal.{IsPrintable}
use Rattle.dcsctp_report.proofs.hexadecimal.write_row.Given as goal

abbrev pub invariant-loop-i : goal.invariant-loop-i
invariant-loop-i g l = record { size : length l.text ≡ 78; printable : All IsPrintable l.text }

abbrev pub invariant-loop-j : goal.invariant-loop-j
invariant-loop-j g l = record { size : length l.text ≡ 78; printable : All IsPrintable l.text }
