use Rattle.std.proofs.Common.{◌∙◌, ◌++◌, ap, vec_capacity}
use Rattle.dcsctp_wire.{specs.Chunk.{view}, specs.Canonical.{padded_chunk}, specs.Builder.{BuilderState}, proofs.Builders.{adds}}
use Rattle.dcsctp_wire.proofs.packet.builder.SctpPacketBuilder.add.Goals as goal

pub returns-clause-added : goal.returns-clause-added
returns-clause-added c =
    let b = c.args.self.now in
    let t = view c.args.chunk.now in
    let begun = c.self.view_is ∙ c.in_ok-begin.ensures.begun in
    let items = c.append_chunk.ensures.items ∙ ap (λ (s : BuilderState). s.bytes ++ padded_chunk t)
    begun in
    let room = vec_capacity c.append_chunk.new.bytes in
    adds b _ t c.requires.encodable c.chunk_has_widths.ensures c.requires.room
    (ap (λ (s : BuilderState). record s { bytes = c.append_chunk.new.bytes.items; reserved = room })
    begun ∙ ap (λ xs. record b { bytes = xs; reserved = room }) items)
