use Rattle.std.proofs.Common.{length}
use Rattle.dump_capture.proofs.HexLemmas.{Appends}
use Rattle.dump_capture.proofs.hex_bytes.append_said.Given as goal

abbrev pub invariant-loop-rest : goal.invariant-loop-rest
invariant-loop-rest l = Appends l.text l.rest l.initial.output.items l.output.items

abbrev pub decreases-loop-rest : goal.decreases-loop-rest
decreases-loop-rest l = length l.rest
