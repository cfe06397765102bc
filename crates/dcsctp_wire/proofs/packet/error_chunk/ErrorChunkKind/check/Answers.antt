use Rattle.std.proofs.Common.{◌+◌, length, rules, nat_lt}
use Rattle.dcsctp_tlv.proofs.Places.{rule_broken}
use Rattle.dcsctp_cause.specs.Cause.{causes}
use Rattle.dcsctp_wire.proofs.packet.error_chunk.ErrorChunkKind.check.Goals as goal

pub returns-then-lacks_causes-clause-found : goal.returns-then-lacks_causes-clause-found
returns-then-lacks_causes-clause-found c =
    rw c.at_front.ensures (rule_broken (λ value. nat_lt 0 (length value)) 0 (causes c.args.strict)
    (λ value cs. cs) (λ cs. 1 + length cs) c.args.value.now (search rules))
