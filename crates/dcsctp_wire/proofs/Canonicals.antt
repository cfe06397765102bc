-- The canonical packet is what the list of chunks writes over zeros; it reads back, and no other
-- meaning has it.
use Rattle.std.{proofs.Common.{◌≡◌, ◌≢◌, ℕ, ◌+◌, ◌-◌, ◌^◌, ◌<◌, ◌≤◌, true, List, [], ◌∷◌, ◌++◌, length, replicate, unwrap_or, refl, sym, ap, subst, ◌∙◌, append_assoc, arith, Option, Ok, append-nil, length-append}, specs.List.{AllByRecursion, flat_map}, specs.Int.{w16, w32, to_be_bytes}, proofs.lemmas.List.{length-map, length-replicate}, proofs.lemmas.Nat.{from_be_bytes-to_be_bytes_2, from_be_bytes-to_be_bytes_4}, proofs.lemmas.Grind.{flat_map-append}, proofs.lemmas.List.Elements.{recursion_from_All, All-from_recursion}}
use Rattle.dcsctp_tlv.{specs.Frame.{lenient, round_up_to_4}, specs.Image.{zeroed, gap, holes, written, size_of, image_of, IsEncodable, list_image, list_size, IsListEncodable}, proofs.Lengths.{length-format}, proofs.Images.{list_size-map, list_image-map, length-list_image, written-zeros, zeroed-append, zeroed-holes}, proofs.ReadsBack.{full_zeros_accepted, body_reads_back, each_encodable}}
use Rattle.dcsctp_wire.{specs.declared.packet.chunk.Chunk.{Chunk}, specs.declared.packet.sctp_packet.ChecksumPolicy.{ChecksumPolicy}, specs.Chunk.{ChunkTree, chunks, tlv as chunk_tlv, format, IsPlaced, IsChunkEncodable, view, views, IsInWidth as IsChunkInWidth, IsWellFormed as IsChunkWellFormed}, specs.Packet.{header_of, Meaning, PacketTree, checksum_field, IsAccepted, disabled, Answer}, specs.Canonical.{padded_chunk, canonical, padded_size, Fits, HasCanonical, IsCanonicalOf}, specs.WellFormed.{IsInWidth, IsWellFormed}, proofs.Packets.{has_header, packet_one}, proofs.ChunkLaws.{IsGoodChunk, chunks_read_back}}

-- a list's size and the bytes of its padded chunks
pub padded_size-is : (ts : List ChunkTree) → padded_size ts ≡ round_up_to_4 (list_size chunk_tlv ts)
padded_size-is [] = refl
padded_size-is (t ∷ []) = omega arith
padded_size-is (t ∷ u ∷ ts) = ap (λ (n : ℕ). round_up_to_4 (size_of (chunk_tlv t)) + n)
    (padded_size-is (u ∷ ts)) ∙ both (size_of (chunk_tlv t)) (list_size chunk_tlv (u ∷ ts)) where
      both : (a b : ℕ) → round_up_to_4 a + round_up_to_4 b ≡ round_up_to_4 (round_up_to_4 a + b)
      both a b = omega arith

-- ---- fits

-- the size of the code's chunks
pub size_views : (cs : List Chunk) → round_up_to_4 (list_size (λ c. chunk_tlv (view c)) cs)
    ≡ padded_size (views cs)
size_views cs = ap round_up_to_4 (list_size-map chunk_tlv view cs) ∙ sym (padded_size-is (views cs))

each_view : (cs : List Chunk) → AllByRecursion (λ c. IsPlaced (view c)) cs
    → AllByRecursion (λ t. IsEncodable (chunk_tlv t)) (views cs)
    → AllByRecursion IsChunkEncodable (views cs)
each_view [] placed fits = tt
each_view (c ∷ cs) placed fits = ((placed.0, fits.0), each_view cs placed.1 fits.1)

each_placed : (cs : List Chunk) → AllByRecursion IsChunkEncodable (views cs)
    → AllByRecursion (λ c. IsPlaced (view c)) cs
each_placed [] h = tt
each_placed (c ∷ cs) h = (h.0.0, each_placed cs h.1)

pub fits_from : (m : Meaning) (cs : List Chunk) → m.chunks ≡ views cs
    → IsListEncodable (λ c. chunk_tlv (view c)) (λ c. IsPlaced (view c)) cs
    → round_up_to_4 (list_size (λ c. chunk_tlv (view c)) cs) ≤ 65520 → Fits m
fits_from m cs e h le =
    let s = size_views cs in
    record {
      each =
          (let small = list_size-map chunk_tlv view cs in
          rw e (each_view cs (recursion_from_All (λ c. IsPlaced (view c)) cs h.each)
          (each_encodable chunk_tlv (views cs) (omega (arith, small, h.total)))));
      whole = (let w = ap padded_size e in omega (arith, s, w, le));
    }

pub fits_to : (m : Meaning) (cs : List Chunk) → m.chunks ≡ views cs → Fits m
    → IsListEncodable (λ c. chunk_tlv (view c)) (λ c. IsPlaced (view c)) cs
    × (round_up_to_4 (list_size (λ c. chunk_tlv (view c)) cs) ≤ 65520)
fits_to m cs e f =
    let s = size_views cs in
    let w = ap padded_size e in (
      record {
        each = All-from_recursion (λ c. IsPlaced (view c)) cs (each_placed cs (rw e at f.each));
        total = omega (arith, s, w, f.whole);
      },
      omega (arith, s, w, f.whole),
    )

-- ---- the bytes

-- a list's image over zeros is the chunks with their padding
joined : (ts : List ChunkTree) → zeroed (list_image chunk_tlv ts)
    ++ replicate (gap (list_size chunk_tlv ts)) 0 ≡ flat_map padded_chunk ts
joined [] = refl
joined (t ∷ []) = sym (append-nil (padded_chunk t))
joined (t ∷ u ∷ ts) =
    let i = image_of (chunk_tlv t) in
    let h = holes (gap (size_of (chunk_tlv t))) in
    let l = list_image chunk_tlv (u ∷ ts) in
    let n = list_size chunk_tlv (u ∷ ts) in
    let k : gap (list_size chunk_tlv (t ∷ u ∷ ts)) ≡ gap n = omega arith in
    ap (λ (m : ℕ). zeroed (i ++ (h ++ l)) ++ replicate m 0) k
    ∙ ap (λ (xs : List ℕ). xs ++ replicate (gap n) 0) (zeroed-append i (h ++ l)
    ∙ ap (λ (xs : List ℕ). zeroed i ++ xs) (zeroed-append h l
    ∙ ap (λ (xs : List ℕ). xs ++ zeroed l) (zeroed-holes (gap (size_of (chunk_tlv t)))))
    ∙ sym (append_assoc (zeroed i) (replicate (gap (size_of (chunk_tlv t))) 0) (zeroed l)))
    ∙ append_assoc (padded_chunk t) (zeroed l) (replicate (gap n) 0)
    ∙ ap (λ (xs : List ℕ). padded_chunk t ++ xs) (joined (u ∷ ts))

-- an image is as long as its size
pub length-chunk : (t : ChunkTree) → length (image_of (chunk_tlv t)) ≡ size_of (chunk_tlv t)
length-chunk t = length-format (format t)

pub body_is : (cs : List Chunk) (n : ℕ) → n ≡ padded_size (views cs)
    → written (list_image (λ c. chunk_tlv (view c)) cs) (replicate n 0) ≡ flat_map padded_chunk
    (views cs)
body_is cs n e =
    let image = list_image chunk_tlv (views cs) in
    let len = length-list_image chunk_tlv length-chunk (views cs) in
    let w = padded_size-is (views cs) in
    let k : n - length image ≡ gap (list_size chunk_tlv (views cs)) = omega (arith, len, w, e) in
    ap (λ (i : List (Option ℕ)). written i (replicate n 0)) (list_image-map chunk_tlv view cs)
    ∙ written-zeros image n (omega (arith, len, w, e))
    ∙ ap (λ (m : ℕ). zeroed image ++ replicate m 0) k
    ∙ joined (views cs)

-- ---- chunk by chunk

pub length-padded_chunk : (t : ChunkTree) → length (padded_chunk t)
    ≡ round_up_to_4 (size_of (chunk_tlv t))
length-padded_chunk t =
    let size = size_of (chunk_tlv t) in
    let image = zeroed (image_of (chunk_tlv t)) in
    let whole = length-append image (replicate (gap size) 0) in
    let front = length-map (image_of (chunk_tlv t)) (λ cell. unwrap_or cell 0) ∙ length-chunk t in
    let back = length-replicate {A = ℕ} (gap size) 0 in
    omega (arith, whole, front, back)

length-chunks : (ts : List ChunkTree) → length (flat_map padded_chunk ts) ≡ padded_size ts
length-chunks [] = refl
length-chunks (t ∷ ts) =
    let whole = length-append (padded_chunk t) (flat_map padded_chunk ts) in
    let front = length-padded_chunk t in
    let back = length-chunks ts in
    omega (arith, whole, front, back)

pub length-canonical : (m : Meaning) → length (canonical m) ≡ 12 + padded_size m.chunks
unfolding canonical
length-canonical m = let chunks = length-chunks m.chunks in omega (arith, chunks)

pub canonical-push : (m : Meaning) (t : ChunkTree) → canonical m ++ padded_chunk t
    ≡ canonical (record m { chunks = m.chunks ++ t ∷ [] })
unfolding canonical
canonical-push m t =
    let header : List ℕ = canonical (record m { chunks = [] }) in
    ap (λ (chunks : List ℕ). header ++ chunks) (sym (flat_map-append padded_chunk m.chunks (t ∷ [])
    ∙ ap (λ (last : List ℕ). flat_map padded_chunk m.chunks ++ last)
    (append-nil (padded_chunk t))))

pub padded_size-push : (ts : List ChunkTree) (t : ChunkTree) → padded_size (ts ++ t ∷ [])
    ≡ padded_size ts + round_up_to_4 (size_of (chunk_tlv t))
padded_size-push [] t = omega arith
padded_size-push (u ∷ ts) t = let rest = padded_size-push ts t in omega (arith, rest)

-- ---- the canonical packet reads back

each_good : (ts : List ChunkTree) → AllByRecursion IsChunkInWidth ts
    → AllByRecursion IsChunkWellFormed ts → AllByRecursion IsChunkEncodable ts
    → AllByRecursion IsGoodChunk ts
each_good [] w f e = tt
each_good (t ∷ ts) w f e =
    (record { width = w.0; formed = f.0; encodable = e.0.1 }, each_good ts w.1 f.1 e.1)

four : (ts : List ChunkTree) → ts ≢ [] → 4 ≤ padded_size ts
four [] some = absurd (some refl)
four (t ∷ ts) some = omega arith

-- the canonical packet with a number in its checksum field
abbrev pub with_field : Meaning → ℕ → List ℕ
with_field m field = to_be_bytes w16 m.source ++ (to_be_bytes w16 m.destination
    ++ (to_be_bytes w32 m.tag ++ (to_be_bytes w32 field ++ flat_map padded_chunk m.chunks)))

pub field_back : (m : Meaning) (field : ℕ) → field < 2 ^ 32 → checksum_field (with_field m field)
    ≡ field
field_back m field fits = from_be_bytes-to_be_bytes_4 field fits

pub reads_back_with : (m : Meaning) (field word : ℕ) (policy : ChecksumPolicy) → field < 2 ^ 32
    → IsInWidth m → IsWellFormed m → Fits m → IsAccepted policy field word
    → Answer (with_field m field) word policy (Ok (record { meaning = m; checksum = field }))
reads_back_with m field word policy field_fits width formed fits accepted =
    let b = length-chunks m.chunks in
    let k = four m.chunks formed.some in
    let e = field_back m field field_fits in (
      record {
        size = record {
          low = omega (arith, b, k, fits.whole);
          high = omega (arith, b, fits.whole);
        };
        accepted = subst (λ (n : ℕ). IsAccepted policy n word) (sym e) accepted;
      },
      record {
        header = has_header (record { meaning = m; checksum = field })
            (header_of (with_field m field))
            (sym (from_be_bytes-to_be_bytes_2 m.source width.source))
            (sym (from_be_bytes-to_be_bytes_2 m.destination width.destination))
            (sym (from_be_bytes-to_be_bytes_4 m.tag width.tag)) (sym e);
        chunks = body_reads_back (chunks policy.strict_padding) chunk_tlv IsGoodChunk
            (chunks_read_back policy.strict_padding) m.chunks (each_good m.chunks width.each
            formed.each fits.each) (full_zeros_accepted policy.strict_padding);
      },
    )

pub reads_back : (m : Meaning) (word : ℕ) (policy : ChecksumPolicy) → IsInWidth m → IsWellFormed m
    → Fits m → IsAccepted policy 0 word
    → Answer (canonical m) word policy (Ok (record { meaning = m; checksum = 0 }))
unfolding canonical
reads_back m word policy width formed fits accepted =
    reads_back_with m 0 word policy (omega arith) width formed fits accepted

-- a policy that accepts every field
abbrev off : ChecksumPolicy
off = record {
  disable_checksum_verification = true;
  zero_checksum_alternate_error_detection_method = record { 0 = 0 };
  strict_padding = lenient;
}

-- what a canonical packet means
means_again : (m : Meaning) → HasCanonical m
    → Answer (canonical m) 0 off (Ok (record { meaning = m; checksum = 0 }))
means_again m h = reads_back m 0 off h.width h.formed h.fits (disabled refl)

-- equal canonical packets have one meaning
pub canonical_one : (m n : Meaning) → HasCanonical m → HasCanonical n → canonical m ≡ canonical n
    → m ≡ n
canonical_one m n h k e =
    let a = means_again m h in
    let b = subst (λ (bytes : List ℕ). Answer bytes 0 off
    (Ok (record { meaning = n; checksum = 0 }))) (sym e) (means_again n k) in
    ap (λ (x : PacketTree). x.meaning) (packet_one lenient (canonical m) _ _ a.1 b.1)

-- so it is that of one meaning alone
pub canonical_of : (m : Meaning) → HasCanonical m → IsCanonicalOf m (canonical m)
canonical_of m h =
    record { has = h; is = refl; one = λ n k e. canonical_one m n h k e }
