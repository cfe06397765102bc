use Rattle.std.proofs.Common.{◌∙◌, refl, []}
use Rattle.dcsctp_wire.specs.Chunk.{ShutdownAck, tlv}
use Rattle.dcsctp_buffer.proofs.Items.{solid_item}
use Rattle.dcsctp_buffer.proofs.fixed_size.ShutdownAckChunkWritableChunk.write_to.Goals as goal

pub returns-clause-written : goal.returns-clause-written
returns-clause-written c =
    c.serialize_to.ensures ∙ solid_item (tlv ShutdownAck) [] c.args.output.now refl refl c.requires.room
