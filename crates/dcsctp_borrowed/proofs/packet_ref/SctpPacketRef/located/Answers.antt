use Rattle.dcsctp_borrowed.proofs.PacketRefs.{chunks_lent}
use Rattle.dcsctp_borrowed.proofs.packet_ref.SctpPacketRef.located.Goals as goal

pub of_packet-requires-clause-meant : goal.of_packet-requires-clause-meant
of_packet-requires-clause-meant c =
    let found = c.in-None.ensures.answer.answers in (
      found.0.meaning.chunks,
      chunks_lent c.args.bytes.now c.args.checksum c.args.policy.now found.0 found.1,
    )
