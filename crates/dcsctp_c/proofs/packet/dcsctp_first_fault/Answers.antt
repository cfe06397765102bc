use Rattle.std.proofs.Common.{Ok, refl}
use Rattle.dcsctp_c.{specs.Code.{policy_of}, proofs.AnswerCodes.{answered, located_code, located_place, not_both, no_packet}}
use Rattle.dcsctp_c.proofs.packet.dcsctp_first_fault.Goals as goal

pub returns-in-None-clause-code : goal.returns-in-None-clause-code
returns-in-None-clause-code c =
    let found = c.in-None.ensures.answer.answers in
    answered c.args.bytes.now c.args.word c.checksum_policy.result
    (policy_of c.args.policy.now) c.checksum_policy.ensures (Ok found.0) 0
    (λ i. (c.type_inv.bytes i).fits) found.1 refl

pub returns-in-None-clause-place : goal.returns-in-None-clause-place
returns-in-None-clause-place c e n at =
    let found = c.in-None.ensures.answer.answers in
    absurd (not_both c.args.bytes.now c.args.word c.checksum_policy.result
    (policy_of c.args.policy.now) c.checksum_policy.ensures found.0 e
    (λ i. (c.type_inv.bytes i).fits) found.1 (n, at))

pub returns-in-Some-clause-code : goal.returns-in-Some-clause-code
returns-in-Some-clause-code c =
    located_code c.args.bytes.now c.args.word c.checksum_policy.result
    (policy_of c.args.policy.now) c.checksum_policy.ensures c.in-Some.found c.code_of.result
    (λ i. (c.type_inv.bytes i).fits)
    c.in-Some.ensures.answer.answers c.code_of.ensures.fault

pub returns-in-Some-clause-none : goal.returns-in-Some-clause-none
returns-in-Some-clause-none c p =
    absurd (no_packet c.args.bytes.now c.args.word c.checksum_policy.result
    (policy_of c.args.policy.now) c.checksum_policy.ensures c.in-Some.found
    (λ i. (c.type_inv.bytes i).fits)
    c.in-Some.ensures.answer.answers p)

pub returns-in-Some-clause-place : goal.returns-in-Some-clause-place
returns-in-Some-clause-place c e n at =
    located_place c.args.bytes.now c.args.word c.checksum_policy.result
    (policy_of c.args.policy.now) c.checksum_policy.ensures c.in-Some.found e n
    c.in-Some.ensures.answer at
