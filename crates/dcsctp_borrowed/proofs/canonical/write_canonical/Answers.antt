use Rattle.std.{proofs.Common.{arith, refl, subst, sym, ap, ap₂, ◌∙◌, ◌≡◌, ◌+◌, ◌-◌, ◌≤◌, ◌++◌, List, ℕ, length, drop, replicate}, specs.List.{flat_map}, proofs.lemmas.List.{drop-replicate}}
use Rattle.dcsctp_tlv.specs.{Frame.{lenient, round_up_to_4}, Image.{written, list_image}, Level.{MeansSome}, Number.{AreBytes}}
use Rattle.dcsctp_wire.{specs.Chunk.{chunks}, specs.Packet.{PacketTree}, specs.Canonical.{canonical, padded_size, padded_chunk, Fits}, proofs.Canonicals.{length-canonical}}
use Rattle.dcsctp_borrowed.{specs.declared.packet_ref.SctpPacketRef.{SctpPacketRef}, specs.PacketRef.{RefersTo}, specs.RawChunks.{MeanChunks}, specs.Rewritten.{item_again, items_of, again_size, chunk_again}, proofs.CanonicalRewritten.{referred, canonical_parts, size_is, body_is, written_of}}
use Rattle.dcsctp_borrowed.proofs.canonical.write_canonical.Goals as goal

mean_of : (r : SctpPacketRef) (bytes : List ℕ) (p : PacketTree) → bytes ≡ r.chunks → RefersTo r p
    → MeanChunks bytes p.meaning.chunks
mean_of r bytes p e ref = subst (λ (b : List ℕ). MeanChunks b p.meaning.chunks) (sym e) ref.chunks

-- how many bytes the canonical packet has, by what is counted of the chunks
whole_size : (r : SctpPacketRef) (bytes : List ℕ) (size : ℕ) (p : PacketTree) → bytes ≡ r.chunks
    → AreBytes bytes → size ≡ length (canonical p.meaning) → RefersTo r p
    → (size ≡ 12 + padded_size p.meaning.chunks)
    × (padded_size p.meaning.chunks ≡ round_up_to_4 (again_size chunk_again bytes))
whole_size r bytes size p e fits is ref =
    (is ∙ length-canonical p.meaning, size_is bytes p.meaning.chunks fits (mean_of r bytes p e ref))

-- as many as there are, whatever the packet is
counted : (r : SctpPacketRef) (bytes : List ℕ) (size : ℕ) → bytes ≡ r.chunks → AreBytes bytes
    → MeansSome (chunks lenient) bytes
    → ((p : PacketTree) → RefersTo r p → Fits p.meaning × (size ≡ length (canonical p.meaning)))
    → (size ≡ 12 + round_up_to_4 (again_size chunk_again bytes)) × (size ≤ 65532)
counted r bytes size e fits known sizes =
    let p = referred r (subst (MeansSome (chunks lenient)) e known) in
    let s = sizes p.0 p.1 in
    let w = whole_size r bytes size p.0 e fits s.1 p.1 in
    let whole = s.0.whole in
    (omega (arith, w.0, w.1), omega (arith, w.0, whole))

pub returns-then-output-size-clause-no_room : goal.returns-then-output-size-clause-no_room
returns-then-output-size-clause-no_room c = λ is p r.
    let s = c.in-Some.ensures p r in (s.0, omega (arith, s.1, c.if-output-size.true))

pub split_at_mut-header-requires : goal.split_at_mut-header-requires
split_at_mut-header-requires c =
    let n = counted c.args.packet.now c.bytes-chunks.result.now c.in-Some.size
    c.bytes-chunks.ensures.value c.bytes-chunks.ensures.fits c.bytes-chunks.ensures.known
    (λ p r. c.in-Some.ensures p r) in
    omega (arith, n.0, c.fill.ensures.len, c.split_at_mut-front.ensures.front_len)

pub put_items-requires-clause-encodable : goal.put_items-requires-clause-encodable
put_items-requires-clause-encodable c =
    let n = counted c.args.packet.now c.bytes-chunks.result.now c.in-Some.size
    c.bytes-chunks.ensures.value c.bytes-chunks.ensures.fits c.bytes-chunks.ensures.known
    (λ p r. c.in-Some.ensures p r) in
    omega (arith, n.0, n.1)

pub put_items-requires-clause-room : goal.put_items-requires-clause-room
put_items-requires-clause-room c =
    let n = counted c.args.packet.now c.bytes-chunks.result.now c.in-Some.size
    c.bytes-chunks.ensures.value c.bytes-chunks.ensures.fits c.bytes-chunks.ensures.known
    (λ p r. c.in-Some.ensures p r) in
    omega (
      arith,
      n.0,
      c.fill.ensures.len,
      c.split_at_mut-front.ensures.front_len,
      c.split_at_mut-header.ensures.back_len,
    )

pub returns-clause-written : goal.returns-clause-written
returns-clause-written c = λ p r.
    let bytes = c.bytes-chunks.result.now in
    let size = c.in-Some.size in
    let ts = p.meaning.chunks in
    let s = c.in-Some.ensures p r in
    let fits = c.bytes-chunks.ensures.fits in
    let w = whole_size c.args.packet.now bytes size p c.bytes-chunks.ensures.value fits s.1 r in
    let zeros : c.fill.new.self ≡ replicate size 0 = c.fill.ensures.after (λ y h. h)
    ∙ ap (λ (k : ℕ). replicate k 0) c.split_at_mut-front.ensures.front_len in
    let left : size - 12 ≡ padded_size ts = omega (arith, w.0) in
    let room : c.split_at_mut-header.result.1.now ≡ replicate (padded_size ts) 0 =
    c.split_at_mut-header.ensures.back ∙ ap (drop 12) zeros
    ∙ drop-replicate {X = ℕ} 12 size 0 ∙ ap (λ (k : ℕ). replicate k 0) left in
    let body : c.put_items.new.output ≡ flat_map padded_chunk ts =
    c.put_items.ensures.written
    ∙ ap (written (list_image (item_again chunk_again) (items_of bytes))) room
    ∙ body_is bytes ts fits (mean_of c.args.packet.now bytes p c.bytes-chunks.ensures.value r)
    (padded_size ts) refl in
    let header = c.copy_from_slice.ensures.after ∙ c.bytes.ensures.canonical refl in
    let whole : c.copy_from_slice.new.self ++ c.put_items.new.output ≡ canonical p.meaning =
    ap₂ (λ (a b : List ℕ). a ++ b) header body ∙ canonical_parts c.args.packet.now p r in
    (s.0, s.1, ap₂ (λ (a b : List ℕ). a ++ b) whole c.split_at_mut-front.ensures.back)

pub returns-clause-one : goal.returns-clause-one
returns-clause-one c = λ p r some.
    let w = returns-clause-written c p r in
    written_of p.meaning c.in-Some.size _ _ (c.has_canonical.ensures p r some w.0) w.1 w.2
