use Rattle.std.proofs.Common.{◌≡◌, List, ℕ, ◌++◌, length}
use Rattle.std.specs.Fmt.{HasWritten, IsPlainFormatter}
use Rattle.dcsctp_report.specs.Printed.{printed}
use Rattle.dcsctp_report.proofs.printed.write_printed.Given as goal

abbrev pub invariant-loop-rest : goal.invariant-loop-rest
invariant-loop-rest g l = record {
  size : length l.block ≡ 128;
  so_far : IsPlainFormatter l.initial.f → (done : List ℕ)
      × HasWritten g.W.Write.write_str_gives l.initial.f done l.f
      × (done ++ printed l.is_word l.rest ≡ printed l.is_word l.fn.bytes);
}

abbrev pub decreases-loop-rest : goal.decreases-loop-rest
decreases-loop-rest g l = length l.rest
