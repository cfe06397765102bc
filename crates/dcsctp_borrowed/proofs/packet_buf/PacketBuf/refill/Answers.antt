use Rattle.std.proofs.{Common.{refl}, lemmas.Result.{err_from_is_err_and}}
use Rattle.dcsctp_wire.specs.Packet.{packet_reading}
use Rattle.dcsctp_borrowed.proofs.PacketBufs.{packet_kept, fault_kept, memory_kept}
use Rattle.dcsctp_borrowed.proofs.packet_buf.PacketBuf.refill.Goals as goal

pub returns-in_err-replace-in-Ok-clause-answer : goal.returns-in_err-replace-in-Ok-clause-answer
returns-in_err-replace-in-Ok-clause-answer c =
    let p = err_from_is_err_and c.from_residual.result c.from_residual.ensures.1 in
    rw (p.1, p.2) (memory_kept (λ (u : Unit {0}). c.args.bytes.now) c.args.bytes.now
    c.args.checksum c.args.policy.now c.in-Ok.field-0 c.in-Ok.ensures.answer)

pub returns-in_ok-replace-in-Ok-clause-answer : goal.returns-in_ok-replace-in-Ok-clause-answer
returns-in_ok-replace-in-Ok-clause-answer c =
    packet_kept (λ (u : Unit {0}). c.args.bytes.now) c.args.bytes.now c.args.checksum
    c.args.policy.now packet_reading _ c.in-Ok.field-0 c.in-Ok.ensures.answer refl

pub returns-in-Err-clause-answer : goal.returns-in-Err-clause-answer
returns-in-Err-clause-answer c =
    fault_kept (λ (u : Unit {0}). c.args.bytes.now) c.args.bytes.now c.args.checksum
    c.args.policy.now c.in-Err.error c.in-Err.ensures.answer
