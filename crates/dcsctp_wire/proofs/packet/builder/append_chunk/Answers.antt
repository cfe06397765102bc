use Rattle.std.proofs.{Common.{arith, ◌≡◌, ◌∙◌, ◌++◌, replicate, drop, take, length}, lemmas.Grind.{common_steps}}
use Rattle.dcsctp_tlv.specs.{Frame.{round_up_to_4}, Image.{size_of, written, image_of}}
use Rattle.dcsctp_wire.{specs.Chunk.{view, tlv as chunk_tlv}, proofs.Builders.{padded_after}}
use Rattle.dcsctp_wire.proofs.packet.builder.append_chunk.Goals as goal

pub returns-clause-items : goal.returns-clause-items
returns-clause-items c =
    let old = c.args.bytes.now.items in
    let t = view c.args.chunk.now in
    let output = c.deref_mut.result.now in
    let written_after : c.put_chunk.new.output ≡ take (length old) output
    ++ written (image_of (chunk_tlv t)) (drop (length old) output) =
    grind (arith, common_steps) in
    let output_is : output ≡ old ++ replicate (round_up_to_4 (size_of (chunk_tlv t))) 0 =
    grind (arith, common_steps) in
    let whole : take c.resize.new.self.len (c.put_chunk.new.output
    ++ drop (length c.put_chunk.new.output) c.resize.new.self.items)
    ≡ c.put_chunk.new.output = grind (arith, common_steps) in
    whole ∙ written_after ∙ padded_after old output t output_is
