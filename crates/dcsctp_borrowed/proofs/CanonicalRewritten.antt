-- The canonical packet is what the chunks of a packet are written as again, over zeros.
use Rattle.std.{proofs.Common.{◌≡◌, ◌≢◌, ℕ, ◌+◌, ◌-◌, ◌^◌, ◌<◌, ◌≤◌, Option, List, [], ◌∷◌, ◌++◌, length, take, replicate, refl, sym, ap, subst, ◌∙◌, append_assoc, arith, append-nil}, specs.List.{AllByRecursion, flat_map}, proofs.Math.Seq.{take-append_seam}}
use Rattle.dcsctp_tlv.{specs.Frame.{lenient, round_up_to_4}, specs.Image.{zeroed, gap, holes, written, size_of, image_of, IsEncodable, list_image, list_size}, specs.Level.{MeansSome}, specs.Number.{AreBytes}, proofs.Forms.{list_formed}, proofs.Images.{length-list_image, written-zeros, zeroed-append, zeroed-holes}, proofs.ReadsBack.{each_encodable}}
use Rattle.dcsctp_wire.{specs.Chunk.{ChunkTree, ForwardTsn, IForwardTsn, chunks, tlv as chunk_tlv, IsPlaced, IsChunkEncodable, IsWellFormed}, specs.Packet.{Meaning, PacketTree}, specs.Canonical.{canonical, padded_chunk, padded_size, Fits, HasCanonical, IsCanonicalOf}, proofs.Canonicals.{padded_size-is, length-chunk, canonical_of}, proofs.ChunkRows.{chunks_form}}
use Rattle.dcsctp_borrowed.{specs.declared.packet_ref.SctpPacketRef.{SctpPacketRef}, specs.PacketRef.{RefersTo}, specs.RawChunks.{MeanChunks}, specs.Rewritten.{item_again, items_of, again_size, chunk_again}, proofs.ItemsRewritten.{list_again}, proofs.ChunksRewritten.{each_chunk}, proofs.Widths.{chunks_fit}}

-- a list's image over zeros is the chunks with their padding
joined : (ts : List ChunkTree) → zeroed (list_image chunk_tlv ts)
    ++ replicate (gap (list_size chunk_tlv ts)) 0 ≡ flat_map padded_chunk ts
joined [] = refl
joined (t ∷ []) = sym (append-nil (padded_chunk t))
joined (t ∷ u ∷ ts) =
    let i = image_of (chunk_tlv t) in
    let h = holes (gap (size_of (chunk_tlv t))) in
    let l = list_image chunk_tlv (u ∷ ts) in
    let n = list_size chunk_tlv (u ∷ ts) in
    let k : gap (list_size chunk_tlv (t ∷ u ∷ ts)) ≡ gap n = omega arith in
    ap (λ (m : ℕ). zeroed (i ++ (h ++ l)) ++ replicate m 0) k
    ∙ ap (λ (xs : List ℕ). xs ++ replicate (gap n) 0) (zeroed-append i (h ++ l)
    ∙ ap (λ (xs : List ℕ). zeroed i ++ xs) (zeroed-append h l
    ∙ ap (λ (xs : List ℕ). xs ++ zeroed l) (zeroed-holes (gap (size_of (chunk_tlv t)))))
    ∙ sym (append_assoc (zeroed i) (replicate (gap (size_of (chunk_tlv t))) 0) (zeroed l)))
    ∙ append_assoc (padded_chunk t) (zeroed l) (replicate (gap n) 0)
    ∙ ap (λ (xs : List ℕ). padded_chunk t ++ xs) (joined (u ∷ ts))

-- what refers to chunks refers to a packet
pub referred : (r : SctpPacketRef) → MeansSome (chunks lenient) r.chunks
    → (p : PacketTree) × RefersTo r p
referred r known = (
  record {
    meaning = record {
      source = r.common_header.source_port;
      destination = r.common_header.destination_port;
      tag = r.common_header.verification_tag;
      chunks = known.0;
    };
    checksum = r.common_header.checksum;
  },
  record { source = refl; destination = refl; tag = refl; checksum = refl; chunks = known.1 },
)

-- the header of such a packet, and its chunks
pub canonical_parts : (r : SctpPacketRef) (p : PacketTree) → RefersTo r p
    → canonical (record {
      source = r.common_header.source_port;
      destination = r.common_header.destination_port;
      tag = r.common_header.verification_tag;
      chunks = [];
    }) ++ flat_map padded_chunk p.meaning.chunks ≡ canonical p.meaning
unfolding canonical
canonical_parts r p ref = rw (ref.source, ref.destination, ref.tag) refl

module _ (bytes : List ℕ) (ts : List ChunkTree) (fits : AreBytes bytes)
    (mean : MeanChunks bytes ts) where
  same : (list_image chunk_tlv ts ≡ list_image (item_again chunk_again) (items_of bytes))
      × (list_size chunk_tlv ts ≡ again_size chunk_again bytes)
  same = list_again (chunks lenient) chunk_tlv chunk_again each_chunk bytes ts fits mean

  -- what is counted of the bytes is counted of the chunks
  pub size_is : padded_size ts ≡ round_up_to_4 (again_size chunk_again bytes)
  size_is = padded_size-is ts ∙ ap round_up_to_4 same.1

  -- what is written of the bytes is written of the chunks
  pub body_is : (n : ℕ) → n ≡ padded_size ts
      → written (list_image (item_again chunk_again) (items_of bytes)) (replicate n 0)
      ≡ flat_map padded_chunk ts
  body_is n e =
      let image = list_image chunk_tlv ts in
      let len = length-list_image chunk_tlv length-chunk ts in
      let w = padded_size-is ts in
      let k : n - length image ≡ gap (list_size chunk_tlv ts) = omega (arith, len, w, e) in
      ap (λ (i : List (Option ℕ)). written i (replicate n 0)) (sym same.0)
      ∙ written-zeros image n (omega (arith, len, w, e))
      ∙ ap (λ (m : ℕ). zeroed image ++ replicate m 0) k
      ∙ joined ts

  -- ---- fits

  placed : (t : ChunkTree) → IsWellFormed t → IsPlaced t
  placed (ForwardTsn f) formed = formed
  placed (IForwardTsn f) formed = formed
  placed t formed = tt

  each : (all : List ChunkTree) → AllByRecursion IsWellFormed all
      → AllByRecursion (λ t. IsEncodable (chunk_tlv t)) all → AllByRecursion IsChunkEncodable all
  each [] formed small = tt
  each (t ∷ all) formed small = ((placed t formed.0, small.0), each all formed.1 small.1)

  -- the canonical packet fits if its size does
  pub fits_if : (m : Meaning) → m.chunks ≡ ts → 12 + padded_size ts ≤ 65532 → Fits m
  fits_if m e le = record {
    each = rw e (each ts (list_formed (chunks lenient) IsWellFormed chunks_form bytes ts mean)
        (each_encodable chunk_tlv ts (omega (arith, le, padded_size-is ts))));
    whole = omega (arith, le, ap padded_size e);
  }

  -- and only then
  pub size_fits : (m : Meaning) → m.chunks ≡ ts → Fits m → again_size chunk_again bytes ≤ 65520
  size_fits m e f = omega (arith, f.whole, size_is, ap padded_size e)

-- ---- a packet that fits has a canonical packet

pub has_canonical : (r : SctpPacketRef) (p : PacketTree) → RefersTo r p
    → r.common_header.source_port < 2 ^ 16 → r.common_header.destination_port < 2 ^ 16
    → r.common_header.verification_tag < 2 ^ 32 → AreBytes r.chunks → p.meaning.chunks ≢ []
    → Fits p.meaning → HasCanonical p.meaning
has_canonical r p ref source destination tag fits some whole = record {
  width = record {
    source = rw (← ref.source) source;
    destination = rw (← ref.destination) destination;
    tag = rw (← ref.tag) tag;
    each = chunks_fit r.chunks p.meaning.chunks fits ref.chunks;
  };
  formed = record {
    each = list_formed (chunks lenient) IsWellFormed chunks_form r.chunks p.meaning.chunks ref.chunks;
    some = some;
  };
  fits = whole;
}

-- and what is written of it is that of no other meaning
pub written_of : (m : Meaning) (n : ℕ) (output rest : List ℕ) → HasCanonical m
    → n ≡ length (canonical m) → output ≡ canonical m ++ rest → IsCanonicalOf m (take n output)
written_of m n output rest has size is =
    subst (IsCanonicalOf m) (sym (ap (λ (k : ℕ). take k output) size
    ∙ ap (take (length (canonical m))) is ∙ take-append_seam (canonical m) rest))
    (canonical_of m has)
