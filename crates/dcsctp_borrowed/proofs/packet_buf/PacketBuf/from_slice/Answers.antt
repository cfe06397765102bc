use Rattle.std.proofs.{lemmas.Result.{err_from_is_err_and}}
use Rattle.dcsctp_wire.specs.Packet.{packet_reading}
use Rattle.dcsctp_borrowed.{specs.PacketBuf.{OwnedBytes}, proofs.PacketBufs.{packet_kept, fault_kept, memory_kept}}
use Rattle.dcsctp_borrowed.proofs.packet_buf.PacketBuf.from_slice.Goals as goal

pub returns-in_err-copied-in-Ok-clause-answer : goal.returns-in_err-copied-in-Ok-clause-answer
returns-in_err-copied-in-Ok-clause-answer c =
    let p = err_from_is_err_and c.from_residual.result c.from_residual.ensures.1 in
    rw (p.1, p.2) (memory_kept (λ (kept : OwnedBytes). kept.bytes) c.args.bytes.now c.args.checksum
    c.args.policy.now c.in-Ok.field-0 c.in-Ok.ensures.answer)

pub returns-in_ok-copied-in-Ok-clause-answer : goal.returns-in_ok-copied-in-Ok-clause-answer
returns-in_ok-copied-in-Ok-clause-answer c =
    packet_kept (λ (kept : OwnedBytes). kept.bytes) c.args.bytes.now c.args.checksum
    c.args.policy.now packet_reading _ c.in-Ok.field-0 c.in-Ok.ensures.answer
    c.in_ok-copied-in-Ok.ensures.items

pub returns-in-Err-clause-answer : goal.returns-in-Err-clause-answer
returns-in-Err-clause-answer c =
    fault_kept (λ (kept : OwnedBytes). kept.bytes) c.args.bytes.now c.args.checksum
    c.args.policy.now c.in-Err.error c.in-Err.ensures.answer
