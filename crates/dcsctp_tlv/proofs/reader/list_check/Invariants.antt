use Rattle.std.proofs.Common.{length}
use Rattle.dcsctp_tlv.proofs.Checks.{Checked}
use Rattle.dcsctp_tlv.proofs.reader.list_check.Given as goal

abbrev pub invariant-loop-rest : goal.invariant-loop-rest
invariant-loop-rest g l =
    Checked (g.T.ReadableTlv.level l.strict) g.T.ReadableTlv.parts l.bytes l.rest l.items l.parts

abbrev pub decreases-loop-rest : goal.decreases-loop-rest
decreases-loop-rest g l = length l.rest
