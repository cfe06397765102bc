use Rattle.std.proofs.Common.{refl}
use Rattle.dcsctp_wire.proofs.packet.init_ack_chunk.InitAckChunkSerializableTlv.serialize_to.Goals as goal

pub returns : goal.returns
returns c =
    rw (c.put_listed.ensures, c.bytes-numbers.ensures, c.deref.ensures.value) refl
