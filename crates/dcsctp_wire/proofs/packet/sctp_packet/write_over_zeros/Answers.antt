use Rattle.std.proofs.{Common.{[], refl, arith, ap, ◌∙◌, ◌≡◌, ◌+◌, ◌-◌, ◌++◌, ℕ, List, length, drop, replicate}, lemmas.List.{drop-replicate, length-replicate}}
use Rattle.dcsctp_tlv.specs.Image.{written, list_image, list_size}
use Rattle.dcsctp_wire.{specs.Chunk.{tlv as chunk_tlv, view, views}, specs.Packet.{meaning_view}, specs.Canonical.{canonical, padded_size}, proofs.Canonicals.{fits_to, body_is, size_views}}
use Rattle.dcsctp_wire.proofs.packet.sctp_packet.write_over_zeros.Goals as goal

pub put_list-requires-clause-encodable : goal.put_list-requires-clause-encodable
put_list-requires-clause-encodable c = rw c.deref.ensures.value
    (fits_to (meaning_view c.args.packet.now) c.args.packet.now.chunks.items refl c.requires.fits).0

pub put_list-requires-clause-room : goal.put_list-requires-clause-room
put_list-requires-clause-room c =
    let cs = c.args.packet.now.chunks.items in
    let s = size_views cs in
    let l : length c.args.output.now ≡ 12 + padded_size (views cs) =
    ap length c.requires.zeros ∙ length-replicate {A = ℕ} (12 + padded_size (views cs)) 0 in
    let d : list_size (λ x. chunk_tlv (view x)) c.deref.result.now
    ≡ list_size (λ x. chunk_tlv (view x)) cs =
    ap (list_size (λ x. chunk_tlv (view x))) c.deref.ensures.value in
    let b = c.split_at_mut-header.ensures.back_len in
    omega (arith, s, l, d, b)

pub returns : goal.returns
unfolding canonical
returns c =
    let p = c.args.packet.now in
    let cs = p.chunks.items in
    let w = padded_size (views cs) in
    let header : List ℕ = canonical (record (meaning_view p) { chunks = [] }) in
    let rest : (12 + w) - 12 ≡ w = omega arith in
    let back : c.split_at_mut-header.result.1.now ≡ replicate w 0 =
    c.split_at_mut-header.ensures.back ∙ ap (drop 12) c.requires.zeros ∙ drop-replicate {X = ℕ}
    12 (12 + w) 0 ∙ ap (λ (k : ℕ). replicate k 0) rest in
    let body : c.put_list.new.output ≡ written (list_image (λ x. chunk_tlv (view x)) cs)
    (replicate w 0) =
    c.put_list.ensures.written
    ∙ ap (λ (x : List ℕ). written (list_image (λ y. chunk_tlv (view y)) c.deref.result.now) x)
    back ∙ ap (λ (x : _). written (list_image (λ y. chunk_tlv (view y)) x) (replicate w 0))
    c.deref.ensures.value in
    ap (λ (x : List ℕ). x ++ c.put_list.new.output) (c.copy_from_slice.ensures.after
    ∙ c.bytes.ensures.canonical refl) ∙ ap (λ (x : List ℕ). header ++ x) (body ∙ body_is cs w refl)
