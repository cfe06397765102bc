use Rattle.std.proofs.Common.{◌∙◌, refl}
use Rattle.dcsctp_tlv.specs.Image.{solid_tlv}
use Rattle.dcsctp_buffer.proofs.Items.{solid_item}
use Rattle.dcsctp_buffer.proofs.raw_chunk.RawChunkWritableChunk.write_to.Goals as goal

pub returns-clause-written : goal.returns-clause-written
returns-clause-written c =
    let raw = c.args.self.now in
    c.put_solid.ensures
    ∙ solid_item (solid_tlv raw.typ raw.flags raw.value.now) raw.value.now c.args.output.now refl
    refl c.requires.room
