use Rattle.std.proofs.Common.{◌≡◌, ap, ◌∙◌}
use Rattle.dcsctp_borrowed.{specs.PacketBuf.{OwnedBytes}, proofs.PacketRefs.{refers}}
use Rattle.dcsctp_borrowed.proofs.packet_buf.PacketBuf.as_ref.Goals as goal

pub returns-clause-refers : goal.returns-clause-refers
returns-clause-refers c word policy p answer =
    let at : c.deref.result.now ≡ c.args.self.now.bytes =
    c.deref.ensures.value ∙ ap (λ (held : OwnedBytes). held.bytes) c.self.view_is in
    rw (c.of_packet.ensures, at) (refers c.args.self.now.bytes word policy p answer)
