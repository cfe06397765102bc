use Rattle.dcsctp_c.{specs.Code.{policy_of}, specs.Output.{IsAnyText}, proofs.AnswerCodes.{of_packet, refused_check}}
use Rattle.dcsctp_c.proofs.packet.dcsctp_report.Goals as goal

pub returns-in-Ok-clause-writes : goal.returns-in-Ok-clause-writes
returns-in-Ok-clause-writes c =
    let found = c.in-Ok.ensures.answer.answers in
    of_packet c.args.bytes.now c.args.word c.checksum_policy.result
    (policy_of c.args.policy.now) c.checksum_policy.ensures IsAnyText found.0 _ _ _
    found.1 c.write_report.ensures.writes

pub returns-in-Err-clause-writes : goal.returns-in-Err-clause-writes
returns-in-Err-clause-writes c =
    refused_check c.args.bytes.now c.args.word c.checksum_policy.result
    (policy_of c.args.policy.now) c.checksum_policy.ensures IsAnyText c.in-Err.error _ _
    c.in-Err.ensures.answer.answers c.code_of.ensures.fault
