use Rattle.std.proofs.Common.{refl, arith, ap, ◌∙◌}
use Rattle.dcsctp_tlv.specs.{Frame.{round_up_to_4}, Image.{list_size}}
use Rattle.dcsctp_wire.{specs.Chunk.{tlv as chunk_tlv, view}, specs.Packet.{meaning_view}, proofs.Canonicals.{fits_to, size_views, length-canonical}}
use Rattle.dcsctp_wire.proofs.packet.sctp_packet.SctpPacket.canonical_size.Goals as goal

pub list_size-requires : goal.list_size-requires
list_size-requires c = rw c.deref.ensures.value (fits_to (meaning_view c.args.self.now)
    c.args.self.now.chunks.items refl c.requires).0

pub round_up_to_4-body_size-requires : goal.round_up_to_4-body_size-requires
round_up_to_4-body_size-requires c =
    let s = size_views c.args.self.now.chunks.items in
    let d = ap round_up_to_4 (c.list_size.ensures ∙ ap (list_size (λ x. chunk_tlv (view x)))
    c.deref.ensures.value) in
    omega (arith, s, d, c.requires.whole)

pub overflow_add-result : goal.overflow_add-result
overflow_add-result c =
    let s = size_views c.args.self.now.chunks.items in
    let d = ap round_up_to_4 (c.list_size.ensures ∙ ap (list_size (λ x. chunk_tlv (view x)))
    c.deref.ensures.value) in
    omega (arith, s, d, c.requires.whole, c.round_up_to_4-body_size.ensures)

pub returns : goal.returns
returns c =
    let s = size_views c.args.self.now.chunks.items in
    let d = ap round_up_to_4 (c.list_size.ensures ∙ ap (list_size (λ x. chunk_tlv (view x)))
    c.deref.ensures.value) in
    let l = length-canonical (meaning_view c.args.self.now) in
    omega (arith, s, d, l, c.round_up_to_4-body_size.ensures)
