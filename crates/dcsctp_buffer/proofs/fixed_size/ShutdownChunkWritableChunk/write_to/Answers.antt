use Rattle.std.proofs.Common.{◌∙◌, refl}
use Rattle.std.specs.Int.{w32, to_be_bytes}
use Rattle.dcsctp_wire.specs.Chunk.{Shutdown, tlv}
use Rattle.dcsctp_buffer.proofs.Items.{solid_item}
use Rattle.dcsctp_buffer.proofs.fixed_size.ShutdownChunkWritableChunk.write_to.Goals as goal

pub returns-clause-written : goal.returns-clause-written
returns-clause-written c =
    c.serialize_to.ensures ∙ solid_item (tlv (Shutdown c.args.self.now.cumulative_tsn_ack.0))
    (to_be_bytes w32 c.args.self.now.cumulative_tsn_ack.0) c.args.output.now refl refl
    c.requires.room
