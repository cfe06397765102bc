-- What a buffer holds after each step.
use Rattle.std.{proofs.Common.{◌≡◌, ◌≢◌, ℕ, ◌+◌, ◌-◌, ◌^◌, ◌≤◌, ◌<◌, Bool, Ok, List, [], ◌∷◌, ◌++◌, length, take, drop, refl, sym, ap, subst, ◌∙◌, append_assoc, arith, length-append, length-take, take_at, drop_at, take-take}, specs.List.{AllByRecursion, flat_map}, specs.Int.{w32, to_be_bytes}, proofs.lemmas.List.{drop-take}, proofs.lemmas.Nat.{from_be_bytes-to_be_bytes_2, from_be_bytes-to_be_bytes_4}, proofs.Math.Seq.{take-append-add}}
use Rattle.dcsctp_tlv.{specs.Frame.{round_up_to_4, full_padding, Item}, specs.Image.{Tlv, zeroed, put, size_of}, specs.Level.{Level, ItemsMean, MeansTrees}, proofs.ReadsBack.{ReadsBack, full_zeros_accepted, body_reads_back}}
use Rattle.dcsctp_crc32c.specs.Checksum.{packet_word}
use Rattle.dcsctp_wire.{specs.Chunk.{ChunkTree, chunks, chunk_row, format, tlv as chunk_tlv, IsChunkEncodable, IsInWidth as IsChunkInWidth, IsWellFormed as IsChunkWellFormed, kept as kept_chunk, all_kept}, specs.Canonical.{canonical, padded_chunk, padded_size, Fits}, specs.Packet.{Meaning, Answer, equal, header_of}, specs.WellFormed.{IsInWidth, IsWellFormed}, specs.declared.packet.sctp_packet.ChecksumPolicy.{ChecksumPolicy}, proofs.ChunkLaws.{chunks_read_back}, proofs.KeptLaws.{kept_tlv, kept_encodable, kept_width}, proofs.Packets.{has_header}, proofs.Canonicals.{length-canonical, length-padded_chunk, canonical-push, padded_size-push, with_field, field_back}}
use Rattle.dcsctp_buffer.specs.Buffer.{HoldsPacket, HasRoom, with_chunk, kept, ReadAs}

-- ---- a packet is begun

-- the packet of no chunks
abbrev bare : ℕ → ℕ → ℕ → Meaning
bare source destination tag =
    record { source = source; destination = destination; tag = tag; chunks = [] }

pub begins : (old new header : List ℕ) (source destination tag : ℕ) → source < 2 ^ 16
    → destination < 2 ^ 16 → tag < 2 ^ 32 → 12 ≤ length old
    → header ≡ canonical (bare source destination tag) → new ≡ put old 0 header
    → HoldsPacket new 12 (bare source destination tag) × (drop 12 new ≡ drop 12 old)
begins old new header source destination tag s d t room is e =
    let len : length header ≡ 12 =
    ap length is ∙ length-canonical (bare source destination tag) in
    let end : 0 + length header ≡ 12 = omega (arith, len) in
    let new_is : new ≡ header ++ drop 12 old = e ∙ ap (λ (n : ℕ). header ++ drop n old) end in
    let new_len = ap length new_is ∙ length-append header (drop 12 old) in (
      record {
        within = omega (arith, new_len, len);
        bytes = ap (take 12) new_is ∙ take_at header (drop 12 old) 12 len ∙ is;
        fits = record { each = tt; whole = omega arith };
        width = record { source = s; destination = d; tag = t; each = tt };
      },
      ap (drop 12) new_is ∙ drop_at header (drop 12 old) 12 len,
    )

-- ---- one more chunk

pub each-push : (P : ChunkTree → Type 0) (ts : List ChunkTree) (t : ChunkTree) → AllByRecursion P ts
    → P t → AllByRecursion P (ts ++ t ∷ [])
each-push P [] t each last = (last, tt)
each-push P (u ∷ ts) t each last = (each.0, each-push P ts t each.1 last)

pub adds : (old new : List ℕ) (size end : ℕ) (m : Meaning) (t : ChunkTree)
    → HasRoom (length old) size t → IsChunkInWidth t
    → new ≡ put old size (padded_chunk t) → end ≡ size + round_up_to_4 (size_of (chunk_tlv t))
    → HoldsPacket old size m → HoldsPacket new end (with_chunk m t)
adds old new size end m t room width e at h =
    let chunk : List ℕ = padded_chunk t in
    let rest : List ℕ = drop (size + length chunk) old in
    let len = length-padded_chunk t in
    let before_len : length (take size old) ≡ size =
    (let l = length-take size old in omega (arith, l, h.within)) in
    let front : List ℕ = take size old ++ chunk in
    let front_len : length front ≡ end =
    (let l = length-append (take size old) chunk in omega (arith, l, len, before_len, at)) in
    let new_is : new ≡ front ++ rest = e ∙ sym (append_assoc (take size old) chunk rest) in
    let new_len = ap length new_is ∙ length-append front rest in
    let held = sym before_len ∙ ap length h.bytes ∙ length-canonical m in
    let more = padded_size-push m.chunks t in
    record {
      within = omega (arith, new_len, front_len);
      bytes = ap (take end) new_is ∙ take_at front rest end front_len
          ∙ ap (λ (xs : List ℕ). xs ++ chunk) h.bytes ∙ canonical-push m t;
      fits = record {
        each = each-push IsChunkEncodable m.chunks t h.fits.each room.encodable;
        whole
            = omega (arith, held, more, room.whole);
      };
      width = record {
        source = h.width.source;
        destination = h.width.destination;
        tag = h.width.tag;
        each = each-push IsChunkInWidth m.chunks t h.width.each width;
      };
    }

-- ---- what is sealed reads back

-- bytes that are written before the end of a front lie in it
take-put : (old bytes : List ℕ) (place k : ℕ) → place + length bytes + k ≤ length old
    → take (place + length bytes + k) (put old place bytes) ≡ put
    (take (place + length bytes + k) old) place bytes
take-put old bytes place k le =
    let n = place + length bytes in
    let front : List ℕ = take place old ++ bytes in
    let front_len : length front ≡ n = (let l = length-append (take place old) bytes in let t =
    length-take place old in omega (arith, l, t, le)) in
    ap (take (n + k)) (sym (append_assoc (take place old) bytes (drop n old)))
    ∙ ap (λ (i : ℕ). take (i + k) (front ++ drop n old)) (sym front_len)
    ∙ take-append-add front (drop n old) k
    ∙ append_assoc (take place old) bytes (take k (drop n old))
    ∙ ap (λ (xs : List ℕ). xs ++ (bytes ++ take k (drop n old)))
    (sym (take-take place (n + k) old (omega arith)))
    ∙ ap (λ (xs : List ℕ). take place (take (n + k) old) ++ (bytes ++ xs)) (sym (drop-take n k old))

-- a number in the checksum field of the canonical packet
field_put : (m : Meaning) (word : ℕ) → put (canonical m) 8 (to_be_bytes w32 word) ≡ with_field m
    word
unfolding canonical
field_put m word = refl

-- the word doesn't look at the field
word_of_field : (m : Meaning) (word : ℕ) → packet_word (with_field m word) ≡ packet_word
    (canonical m)
unfolding canonical
word_of_field m word = refl

-- a level where each item means the tree that it is written for
abbrev as_written : Bool → Level ChunkTree
as_written strict = record {
  row = λ first second. record {
    means = λ value t. (first ≡ (chunk_tlv t).first) × (second ≡ (chunk_tlv t).second)
        × (value ≡ zeroed (chunk_tlv t).value);
    faults = λ value f. ⊥;
  };
  padding = full_padding strict;
}

written_back : (strict : Bool) → ReadsBack (as_written strict) chunk_tlv IsChunkEncodable
written_back strict = record {
  sized = λ t. (format t).sized;
  fits = λ t encodable. encodable.1;
  means = λ t encodable. (refl, refl, refl);
}

-- so the items mean what their chunks read as
items_mean : (strict : Bool) (is : List Item) (ts us : List ChunkTree)
    → ItemsMean (as_written strict) is ts → ReadAs strict ts us → ItemsMean (chunks strict) is us
items_mean strict [] [] [] m r = tt
items_mean strict (i ∷ is) (t ∷ ts) (u ∷ us) m r = (
  rw (m.0.0, m.0.1, m.0.2) r.0,
  items_mean strict is ts us m.1 r.1,
)
items_mean strict [] (t ∷ ts) us m r = absurd m
items_mean strict (i ∷ is) [] us m r = absurd m
items_mean strict [] [] (u ∷ us) m r = absurd r
items_mean strict (i ∷ is) (t ∷ ts) [] m r = absurd r

body_means : (strict : Bool) (ts us : List ChunkTree) → AllByRecursion IsChunkEncodable ts
    → ReadAs strict ts us → MeansTrees (chunks strict) (flat_map padded_chunk ts) us
body_means strict ts us encodable r =
    let b = body_reads_back (as_written strict) chunk_tlv IsChunkEncodable (written_back strict) ts
    encodable (full_zeros_accepted strict) in
    record { items = b.items; are = b.are; mean = items_mean strict b.items ts us b.mean r }

four : (ts : List ChunkTree) → ts ≢ [] → 4 ≤ padded_size ts
four [] some = absurd (some refl)
four (t ∷ ts) some = omega arith

length-field : (m : Meaning) (word : ℕ) → length (with_field m word) ≡ length (canonical m)
unfolding canonical
length-field m word = refl

-- the canonical packet with its word in its checksum field
field_means : (m : Meaning) (us : List ChunkTree) (word : ℕ) (policy : ChecksumPolicy)
    → word < 2 ^ 32 → IsInWidth m → Fits m → m.chunks ≢ []
    → ReadAs policy.strict_padding m.chunks us
    → Answer (with_field m word) word policy
    (Ok (record { meaning = record m { chunks = us }; checksum = word }))
field_means m us word policy small width fits some r =
    let len = length-field m word ∙ length-canonical m in
    let least = four m.chunks some in
    let e = field_back m word small in (
      record {
        size = record {
          low = omega (arith, len, least);
          high = omega (arith, len, fits.whole);
        };
        accepted = equal e;
      },
      record {
        header = has_header (record { meaning = record m { chunks = us }; checksum = word })
            (header_of (with_field m word))
            (sym (from_be_bytes-to_be_bytes_2 m.source width.source))
            (sym (from_be_bytes-to_be_bytes_2 m.destination width.destination))
            (sym (from_be_bytes-to_be_bytes_4 m.tag width.tag)) (sym e);
        chunks = body_means policy.strict_padding m.chunks us fits.each r;
      },
    )

pub sealed_means : (old new : List ℕ) (size word : ℕ) (m : Meaning) (us : List ChunkTree)
    (policy : ChecksumPolicy)
    → word < 2 ^ 32 → 12 ≤ size
    → word ≡ packet_word (take size old) → new ≡ put old 8 (to_be_bytes w32 word)
    → HoldsPacket old size m → m.chunks ≢ [] → ReadAs policy.strict_padding m.chunks us
    → Answer (take size new) (packet_word (take size new)) policy
    (Ok (record { meaning = record m { chunks = us }; checksum = packet_word (take size new) }))
sealed_means old new size word m us policy small header is e h some r =
    let k = size - 12 in
    let size_is : size ≡ 12 + k = omega (arith, header) in
    let put_is : take size (put old 8 (to_be_bytes w32 word)) ≡ put (take size old) 8
    (to_be_bytes w32 word) =
    ap (λ (n : ℕ). take n (put old 8 (to_be_bytes w32 word))) size_is
    ∙ take-put old (to_be_bytes w32 word) 8 k (omega (arith, h.within, size_is))
    ∙ ap (λ (n : ℕ). put (take n old) 8 (to_be_bytes w32 word)) (sym size_is) in
    let bytes : take size new ≡ with_field m word =
    ap (take size) e ∙ put_is ∙ ap (λ (xs : List ℕ). put xs 8 (to_be_bytes w32 word)) h.bytes
    ∙ field_put m word in
    let word_is : word ≡ packet_word (take size new) =
    is ∙ ap packet_word h.bytes ∙ sym (word_of_field m word) ∙ ap packet_word (sym bytes) in
    subst (λ (n : ℕ). Answer (take size new) n policy
    (Ok (record { meaning = record m { chunks = us }; checksum = n }))) word_is
    (subst (λ (xs : List ℕ). Answer xs word policy (Ok
    (record { meaning = record m { chunks = us }; checksum = word }))) (sym bytes)
    (field_means m us word policy small h.width h.fits some r))

-- what is written reads as its kept form, where that can be read
reads_kept : (strict : Bool) (ts : List ChunkTree) → AllByRecursion IsChunkEncodable ts
    → AllByRecursion IsChunkInWidth ts → AllByRecursion IsChunkWellFormed (all_kept ts)
    → ReadAs strict ts (all_kept ts)
reads_kept strict [] encodable width formed = tt
reads_kept strict (t ∷ ts) encodable width formed = (
  subst (λ (x : Tlv). (chunk_row strict x.first x.second).means (zeroed x.value) (kept_chunk t))
      (kept_tlv t) ((chunks_read_back strict).means (kept_chunk t) (record {
        width = kept_width t width.0;
        formed = formed.0;
        encodable = (kept_encodable t encodable.0).1;
      })),
  reads_kept strict ts encodable.1 width.1 formed.1,
)

pub sealed_reads : (old new : List ℕ) (size word : ℕ) (m : Meaning) (policy : ChecksumPolicy)
    → word < 2 ^ 32 → 12 ≤ size
    → word ≡ packet_word (take size old) → new ≡ put old 8 (to_be_bytes w32 word)
    → HoldsPacket old size m → IsWellFormed (kept m)
    → Answer (take size new) (packet_word (take size new)) policy
    (Ok (record { meaning = kept m; checksum = packet_word (take size new) }))
sealed_reads old new size word m policy small header is e h formed =
    sealed_means old new size word m (all_kept m.chunks) policy small header is e h
    (λ none. formed.some (ap all_kept none))
    (reads_kept policy.strict_padding m.chunks h.fits.each h.width.each formed.each)
