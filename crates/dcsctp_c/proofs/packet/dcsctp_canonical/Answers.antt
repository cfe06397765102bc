use Rattle.std.proofs.Common.{subst, sym, Ok}
use Rattle.dcsctp_wire.{specs.declared.packet.sctp_packet.ChecksumPolicy.{ChecksumPolicy}, specs.Packet.{Answer}}
use Rattle.dcsctp_c.{specs.Code.{policy_of}, specs.Output.{IsCanonical}, proofs.AnswerCodes.{of_packet, refused_check, refused_code, some_chunk}}
use Rattle.dcsctp_c.proofs.packet.dcsctp_canonical.Goals as goal

pub returns-in-Ok-clause-written : goal.returns-in-Ok-clause-written
returns-in-Ok-clause-written c =
    let found = c.in-Ok.ensures.answer.answers in
    let p = found.0.0 in
    of_packet c.args.bytes.now c.args.word c.checksum_policy.result
    (policy_of c.args.policy.now) c.checksum_policy.ensures IsCanonical p _ _ _
    found.0.1 (c.put_canonical.ensures.writes p (c.in-Ok.ensures.refers p found.0.1))

pub returns-in-Ok-clause-one : goal.returns-in-Ok-clause-one
returns-in-Ok-clause-one c zero p answer =
    let asked = subst (λ (policy : ChecksumPolicy).
    Answer c.args.bytes.now c.args.word policy (Ok p)) (sym c.checksum_policy.ensures) answer in
    c.put_canonical.ensures.one zero p (c.in-Ok.ensures.refers p asked)
    (some_chunk c.args.bytes.now c.args.word c.checksum_policy.result p asked)

pub returns-in-Err-clause-written : goal.returns-in-Err-clause-written
returns-in-Err-clause-written c =
    refused_check c.args.bytes.now c.args.word c.checksum_policy.result
    (policy_of c.args.policy.now) c.checksum_policy.ensures IsCanonical c.in-Err.error _ _
    c.in-Err.ensures.answer.answers c.code_of.ensures.fault

pub returns-in-Err-clause-one : goal.returns-in-Err-clause-one
returns-in-Err-clause-one c zero p answer =
    absurd (refused_code c.args.bytes.now c.args.word c.checksum_policy.result
    (policy_of c.args.policy.now) c.checksum_policy.ensures c.in-Err.error c.code_of.result
    c.in-Err.ensures.answer.answers c.code_of.ensures.fault zero)
