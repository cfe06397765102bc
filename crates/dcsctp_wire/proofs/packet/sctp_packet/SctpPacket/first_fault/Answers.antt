use Rattle.dcsctp_wire.proofs.PacketPlaces.{located_exactly}
use Rattle.dcsctp_wire.proofs.packet.sctp_packet.SctpPacket.first_fault.Goals as goal

pub returns-clause-answer : goal.returns-clause-answer
returns-clause-answer c =
    rw c.err.ensures.value (located_exactly c.args.bytes.now c.args.checksum c.args.policy.now
    (λ i. (c.type_inv.bytes i).fits) c.check_packet.result c.check_packet.ensures.found)
