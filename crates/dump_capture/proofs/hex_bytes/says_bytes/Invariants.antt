use Rattle.std.proofs.Common.{length}
use Rattle.dump_capture.proofs.hex_bytes.says_bytes.Given as goal

abbrev pub decreases-loop-rest : goal.decreases-loop-rest
decreases-loop-rest l = length l.rest
