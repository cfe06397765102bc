use Rattle.std.proofs.Common.{arith, rules, ℕ, ◌≡◌, ◌+◌, ◌∙◌, ap, length}
use Rattle.dcsctp_tlv.specs.{Frame.{round_up_to_4}, Image.{size_of}}
use Rattle.dcsctp_wire.specs.Chunk.{tlv as chunk_tlv}
use Rattle.dcsctp_buffer.{specs.Buffer.{HasRoom, IsBegun}, proofs.Buffers.{adds}}
use Rattle.dcsctp_buffer.proofs.add.Goals as goal

pub returns-clause-added : goal.returns-clause-added
returns-clause-added g c added =
    let t = g.C.WritableChunk.tree c.args.chunk.now in
    let size = c.args.size.now in
    let padded : c.round_up_to_4-padded_size.result ≡ round_up_to_4 (size_of (chunk_tlv t)) =
    c.round_up_to_4-padded_size.ensures ∙ ap round_up_to_4 c.in-Some.ensures.1 in
    let begun : IsBegun (length c.args.buffer.now) size = search rules in
    let room : HasRoom (length c.args.buffer.now) size t = record {
      header = begun.header;
      words = begun.words;
      encodable = c.in-Some.ensures.0;
      within = omega (arith, padded, c.min-limit.ensures);
      whole = omega (arith, padded, c.min-limit.ensures);
    } in
    let end = ap (λ (n : ℕ). size + n) padded in
    record {
      size = end;
      bytes = c.put_padded.ensures.bytes;
      held = λ m held. adds c.args.buffer.now c.put_padded.new.output size
          (size + c.round_up_to_4-padded_size.result) m t room c.put_padded.ensures.width
          c.put_padded.ensures.bytes end held;
    }
