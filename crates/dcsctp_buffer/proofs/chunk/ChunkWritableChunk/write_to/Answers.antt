use Rattle.dcsctp_wire.{specs.Chunk.{tlv as chunk_tlv, view}, proofs.Canonicals.{length-chunk}}
use Rattle.dcsctp_buffer.proofs.Items.{zeroed_item}
use Rattle.dcsctp_buffer.proofs.chunk.ChunkWritableChunk.write_to.Goals as goal

pub returns-clause-written : goal.returns-clause-written
returns-clause-written c =
    let t = view c.args.self.now in
    let s = c.split_at_mut-front in
    zeroed_item (chunk_tlv t) c.serialized_size.result c.args.output.now s.result.0.now
    c.fill.new.self c.serialize_to.new.output s.result.1.now
    c.serialized_size.ensures (length-chunk t) s.ensures.front_len (c.fill.ensures.after (λ y h. h))
    c.serialize_to.ensures s.ensures.back
