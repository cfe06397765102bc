use Rattle.std.proofs.Common.{Ok, refl}
use Rattle.dcsctp_c.{specs.Code.{policy_of}, proofs.AnswerCodes.{answered, checked_code}}
use Rattle.dcsctp_c.proofs.packet.dcsctp_check.Goals as goal

pub returns-in-Ok : goal.returns-in-Ok
returns-in-Ok c =
    let found = c.in-Ok.ensures.answer.answers in
    answered c.args.bytes.now c.args.word c.checksum_policy.result
    (policy_of c.args.policy.now) c.checksum_policy.ensures (Ok found.0) 0
    (λ i. (c.type_inv.bytes i).fits) found.1 refl

pub returns-in-Err : goal.returns-in-Err
returns-in-Err c =
    checked_code c.args.bytes.now c.args.word c.checksum_policy.result
    (policy_of c.args.policy.now) c.checksum_policy.ensures c.in-Err.error c.code_of.result
    (λ i. (c.type_inv.bytes i).fits)
    c.in-Err.ensures.answer.answers c.code_of.ensures.fault
