use Rattle.std.proofs.Common.{Ok, Err, refl}
use Rattle.dcsctp_wire.specs.Packet.{packet_checking}
use Rattle.dcsctp_borrowed.{specs.PacketBuf.{OwnedBytes}, proofs.PacketBufs.{packet_kept, fault_checked, checked_as}}
use Rattle.dcsctp_borrowed.proofs.packet_buf.PacketBuf.of_vec.Goals as goal

pub returns-in-Ok-clause-answer : goal.returns-in-Ok-clause-answer
returns-in-Ok-clause-answer c =
    packet_kept (λ (kept : OwnedBytes). kept.bytes) c.args.bytes.items c.args.checksum
    c.args.policy.now packet_checking _ c.in-Ok.field-0
    (checked_as c.deref.result.now c.args.bytes.items c.args.checksum c.args.policy.now
    (Ok c.in-Ok.field-0) c.deref.ensures.value c.in-Ok.ensures.answer) refl

pub returns-in-Err-clause-answer : goal.returns-in-Err-clause-answer
returns-in-Err-clause-answer c =
    fault_checked (λ (kept : OwnedBytes). kept.bytes) c.args.bytes.items c.args.checksum
    c.args.policy.now c.in-Err.error
    (checked_as c.deref.result.now c.args.bytes.items c.args.checksum c.args.policy.now
    (Err c.in-Err.error) c.deref.ensures.value c.in-Err.ensures.answer)
