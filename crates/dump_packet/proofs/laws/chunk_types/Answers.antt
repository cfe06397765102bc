use Rattle.dump_packet.proofs.PacketTypes.{chunk_types}
use Rattle.dump_packet.proofs.laws.chunk_types.Goals as goal

pub returns : goal.returns
returns c = chunk_types
