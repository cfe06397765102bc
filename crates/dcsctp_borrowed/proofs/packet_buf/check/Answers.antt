use Rattle.std.proofs.Common.{Ok, Err, refl}
use Rattle.dcsctp_borrowed.proofs.PacketBufs.{holds, check_kept}
use Rattle.dcsctp_borrowed.proofs.packet_buf.check.Goals as goal

pub returns-in-Ok-clause-answer : goal.returns-in-Ok-clause-answer
returns-in-Ok-clause-answer c =
    let found = c.in-Ok.ensures.answer.answers in
    check_kept c.args.bytes.now c.args.checksum c.args.policy.now (λ i. (c.type_inv.bytes i).fits)
    (λ (u : Unit {0}). c.args.bytes.now) (Ok tt) ((found.0, found.1), refl)

pub returns-in-Ok-clause-held : goal.returns-in-Ok-clause-held
returns-in-Ok-clause-held c =
    let found = c.in-Ok.ensures.answer.answers in
    holds c.args.bytes.now c.args.checksum c.args.policy.now found.0 found.1

pub returns-in-Err-clause-answer : goal.returns-in-Err-clause-answer
returns-in-Err-clause-answer c =
    check_kept c.args.bytes.now c.args.checksum c.args.policy.now (λ i. (c.type_inv.bytes i).fits)
    (λ (u : Unit {0}). c.args.bytes.now) (Err c.in-Err.error) c.in-Err.ensures.answer.answers
