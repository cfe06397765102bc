use Rattle.std.proofs.Common.{[], drop}
use Rattle.dump_capture.specs.HexBytes.{Continues}
use Rattle.dump_capture.proofs.hex_bytes.without_blanks_before.Given as goal

-- only blanks are before
abbrev pub invariant-loop-place : goal.invariant-loop-place
invariant-loop-place l = Continues l.text [] (drop l.place l.text)
