-- What a builder holds: its room, and one more chunk.
use Rattle.std.{proofs.Common.{◌≡◌, ◌≢◌, ℕ, ◌+◌, ◌-◌, ◌^◌, ◌≤◌, ◌<◌, Bool, true, false, Ok, List, [], ◌∷◌, ◌++◌, length, take, drop, replicate, refl, sym, ap, subst, ◌∙◌, arith}, specs.List.{AllByRecursion}, proofs.Math.Seq.{take-append_seam, drop-append_seam}}
use Rattle.dcsctp_tlv.{specs.Frame.{round_up_to_4}, specs.Image.{zeroed, gap, written, size_of, image_of}, proofs.Images.{written-zeros}, proofs.Kept.{all_map}}
use Rattle.dcsctp_wire.{specs.Chunk.{ChunkTree, tlv as chunk_tlv, IsChunkEncodable, IsInWidth as IsChunkInWidth, IsWellFormed as IsChunkWellFormed, kept as kept_chunk, all_kept as kept_chunks}, specs.Canonical.{canonical, padded_chunk, padded_size, Fits}, specs.Builder.{BuilderState, meaning_with, HoldsPacket, Holds, room, begun, checksummed, built}, specs.declared.packet.sctp_packet.ChecksumPolicy.{ChecksumPolicy}, specs.Packet.{Meaning, checksum_field, IsAccepted, Answer}, specs.WellFormed.{IsInWidth, IsWellFormed}, proofs.KeptLaws.{canonical_kept, kept_encodable, kept_width}, proofs.Canonicals.{length-chunk, length-canonical, canonical-push, padded_size-push, padded_size-is, with_field, field_back, reads_back_with}}

-- ---- one chunk's bytes

-- a chunk written over the zeros after some bytes
pub padded_after : (bytes output : List ℕ) (t : ChunkTree)
    → output ≡ bytes ++ replicate (round_up_to_4 (size_of (chunk_tlv t))) 0
    → take (length bytes) output ++ written (image_of (chunk_tlv t)) (drop (length bytes) output)
    ≡ bytes ++ padded_chunk t
padded_after bytes output t e =
    let size = size_of (chunk_tlv t) in
    let image = image_of (chunk_tlv t) in
    let zeros : List ℕ = replicate (round_up_to_4 size) 0 in
    let len = length-chunk t in
    let rest : round_up_to_4 size - length image ≡ gap size = omega (arith, len) in
    rw (e, take-append_seam bytes zeros, drop-append_seam bytes zeros) (
    ap (λ (chunk : List ℕ). bytes ++ chunk) (written-zeros image (round_up_to_4 size)
    (omega (arith, len)) ∙ ap (λ (n : ℕ). zeroed image ++ replicate n 0) rest))

-- ---- the room

-- what is held is the bytes after the header
size_held : (b : BuilderState) (ts : List ChunkTree) → Holds b ts
    → length b.bytes - 12 ≡ padded_size ts
size_held b [] h = let none = ap length h in omega (arith, none)
size_held b (t ∷ ts) h = let len =
    ap length h.bytes ∙ length-canonical (meaning_with b (t ∷ ts)) in omega (arith, len)

pub room_after : (b : BuilderState) (ts : List ChunkTree) → Holds b ts
    → room b ≡ b.limit - 12 - padded_size ts
room_after b ts h = let size = size_held b ts h in omega (arith, size)

-- ---- one more chunk

begun_some : (b : BuilderState) (bytes : List ℕ) → 0 < length bytes → begun b bytes ≡ bytes
begun_some b [] some = absurd (omega (arith, some))
begun_some b (byte ∷ bytes) some = refl

begun_held : (b : BuilderState) (ts : List ChunkTree) → Holds b ts
    → begun b b.bytes ≡ canonical (meaning_with b ts)
begun_held b [] h = ap (begun b) h
begun_held b (t ∷ ts) h =
    let len = ap length h.bytes ∙ length-canonical (meaning_with b (t ∷ ts)) in
    begun_some b b.bytes (omega (arith, len)) ∙ h.bytes

each_held : (b : BuilderState) (ts : List ChunkTree) → Holds b ts
    → AllByRecursion IsChunkEncodable ts
each_held b [] h = tt
each_held b (t ∷ ts) h = h.each

widths_held : (b : BuilderState) (ts : List ChunkTree) → Holds b ts
    → AllByRecursion IsChunkInWidth ts
widths_held b [] h = tt
widths_held b (t ∷ ts) h = h.widths

each-push : (P : ChunkTree → Type 0) (ts : List ChunkTree) (t : ChunkTree) → AllByRecursion P ts
    → P t → AllByRecursion P (ts ++ t ∷ [])
each-push P [] t each last = (last, tt)
each-push P (u ∷ ts) t each last = (each.0, each-push P ts t each.1 last)

holds_packet : (b : BuilderState) (ts : List ChunkTree) (t : ChunkTree)
    → HoldsPacket b (ts ++ t ∷ []) → Holds b (ts ++ t ∷ [])
holds_packet b [] t h = h
holds_packet b (u ∷ ts) t h = h

-- the same settings, and the chunk's bytes after those that were there
pub adds : (b after : BuilderState) (t : ChunkTree) → IsChunkEncodable t → IsChunkInWidth t
    → round_up_to_4 (size_of (chunk_tlv t)) ≤ room b
    → after ≡ record b { bytes = begun b b.bytes ++ padded_chunk t; reserved = after.reserved }
    → (ts : List ChunkTree) → Holds b ts → Holds after (ts ++ t ∷ [])
adds b after t encodable width fits is ts h =
    let new = record b { bytes = begun b b.bytes ++ padded_chunk t; reserved = after.reserved } in
    let bytes : new.bytes ≡ canonical (meaning_with b (ts ++ t ∷ [])) = ap (λ (xs : List ℕ). xs
    ++ padded_chunk t) (begun_held b ts h) ∙ canonical-push (meaning_with b ts) t in
    let len = ap length bytes ∙ length-canonical (meaning_with b (ts ++ t ∷ [])) in
    let more = padded_size-push ts t in
    let left = room_after b ts h in
    subst (λ (s : BuilderState). Holds s (ts ++ t ∷ [])) (sym is) (
    holds_packet new ts t (record {
      each = each-push IsChunkEncodable ts t (each_held b ts h) encodable;
      widths = each-push IsChunkInWidth ts t (widths_held b ts h) width;
      bytes = bytes;
      within = omega (arith, len, more, left, fits);
    }))

-- ---- what is built reads back

-- the number that is built into the field
abbrev field_of : Bool → ℕ → ℕ
field_of true word = word
field_of false word = 0

built_is : (m : Meaning) (b : Bool) (word : ℕ) (bytes : List ℕ) → bytes ≡ canonical m
    → checksummed b word bytes ≡ with_field m (field_of b word)
unfolding canonical
built_is m true word bytes e = rw e refl
built_is m false word bytes e = e

field_fits : (b : Bool) (word : ℕ) → word < 2 ^ 32 → field_of b word < 2 ^ 32
field_fits true word h = h
field_fits false word h = omega arith

some_kept : (ts : List ChunkTree) → ts ≢ [] → kept_chunks ts ≢ []
some_kept [] some = absurd (some refl)
some_kept (t ∷ ts) some = λ e. cc

held : (b : BuilderState) (ts : List ChunkTree) → ts ≢ [] → Holds b ts → HoldsPacket b ts
held b [] some h = absurd (some refl)
held b (t ∷ ts) some h = h

-- a size that is a multiple of 4
in_words : (ts : List ChunkTree) (limit : ℕ) → 12 + padded_size ts ≤ limit → limit ≤ 65535
    → 12 + padded_size ts ≤ 65532
in_words ts limit h le = let e = padded_size-is ts in omega (arith, e, h, le)

pub built_reads_back : (b : BuilderState) (field word : ℕ) (policy : ChecksumPolicy)
    (ts : List ChunkTree) → field < 2 ^ 32 → b.source < 2 ^ 16 → b.destination < 2 ^ 16
    → b.tag < 2 ^ 32 → b.limit ≤ 65535
    → Holds b ts → ts ≢ []
    → AllByRecursion IsChunkWellFormed (kept_chunks ts)
    → IsAccepted policy (checksum_field (built b field)) word
    → Answer (built b field) word policy (Ok (record {
      meaning = meaning_with b (kept_chunks ts);
      checksum = checksum_field (built b field);
    }))
built_reads_back b field word policy ts field_ok source destination tag short h some readable
    accepted =
    let p = held b ts some h in
    let m = meaning_with b (kept_chunks ts) in
    let n = field_of b.writes_checksum field in
    let n_fits = field_fits b.writes_checksum field field_ok in
    let is : built b field ≡ with_field m n = built_is m b.writes_checksum field b.bytes
    (p.bytes ∙ sym (canonical_kept (meaning_with b ts))) in
    let field_is : checksum_field (built b field) ≡ n =
    ap checksum_field is ∙ field_back m n n_fits in
    let len : length b.bytes ≡ 12 + padded_size (kept_chunks ts) =
    ap length (p.bytes ∙ sym (canonical_kept (meaning_with b ts))) ∙ length-canonical m in
    let fits : Fits m = record {
      each = all_map IsChunkEncodable IsChunkEncodable kept_chunk kept_encodable ts p.each;
      whole = in_words (kept_chunks ts) b.limit (omega (arith, len, p.within)) short;
    } in
    let formed : IsWellFormed m = record { each = readable; some = some_kept ts some } in
    let in_width : IsInWidth m = record {
      source = source;
      destination = destination;
      tag = tag;
      each = all_map IsChunkInWidth IsChunkInWidth kept_chunk kept_width ts p.widths;
    } in
    subst (λ (bytes : List ℕ). Answer bytes word policy
    (Ok (record { meaning = m; checksum = checksum_field bytes }))) (sym is)
    (subst (λ (f : ℕ). Answer (with_field m n) word policy
    (Ok (record { meaning = m; checksum = f }))) (sym (field_back m n n_fits))
    (reads_back_with m n word policy n_fits in_width formed fits
    (subst (λ (f : ℕ). IsAccepted policy f word) field_is accepted)))
