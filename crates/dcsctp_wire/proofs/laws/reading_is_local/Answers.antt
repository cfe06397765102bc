use Rattle.dcsctp_wire.proofs.PacketLaws.{packet_after, fault_after}
use Rattle.dcsctp_wire.proofs.laws.reading_is_local.Goals as goal

pub returns-clause-packet : goal.returns-clause-packet
returns-clause-packet c = packet_after

pub returns-clause-fault : goal.returns-clause-fault
returns-clause-fault c = fault_after
