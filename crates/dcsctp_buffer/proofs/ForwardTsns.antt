-- A chunk with skipped streams, of either kind: what it takes to be written, and its bytes.
use Rattle.std.{proofs.Common.{◌≡◌, ℕ, ◌+◌, ◌*◌, ◌^◌, ◌<◌, ◌≤◌, Bool, true, false, List, [], ◌∷◌, ◌++◌, length, drop, map, All, refl, sym, ap, arith, ◌∙◌, length-append}, specs.Int.{w32, to_be_bytes}, specs.List.{flat_map, AllByRecursion}, proofs.lemmas.List.{length-map}, proofs.lemmas.List.Elements.{All-from_recursion}}
use Rattle.dcsctp_tlv.{specs.Fields.{numbers_and_fields_tlv}, specs.Format.{flagged_tlv}, specs.Frame.{header}, specs.Image.{Tlv, put, size_of, solid_tlv}, specs.Length.{length-each}, proofs.Puts.{put-put, written_value}}
use Rattle.dcsctp_chunk.specs.SkippedStreams.{SkippedStreamTree, AreByMid, IsSkippedStreamInWidth, Tree}
use Rattle.dcsctp_chunk.specs.ForwardTsn as by_ssn
use Rattle.dcsctp_chunk.specs.IForwardTsn as by_mid
use Rattle.dcsctp_wire.specs.Chunk.{tlv as chunk_tlv, IsPlaced, IsInWidth}
use Rattle.dcsctp_buffer.{specs.Buffer.{with_item}, specs.ForwardTsn.{forward_tsn, chunk_type, stream_bytes, stream_size}, proofs.Items.{solid_item}}

pub length-stream : (is_by_mid : Bool) (s : SkippedStreamTree)
    → length (stream_bytes is_by_mid s) ≡ stream_size is_by_mid
length-stream true s = by_mid.length-stream s
length-stream false s = by_ssn.length-stream s

tlv_is : (is_by_mid : Bool) (t : Tree) → chunk_tlv (forward_tsn is_by_mid t)
    ≡ numbers_and_fields_tlv (chunk_type is_by_mid) 0 (t.tsn ∷ []) (stream_bytes is_by_mid)
    (stream_size is_by_mid) t.streams
tlv_is true t = refl
tlv_is false t = refl

pub of_placed : (is_by_mid : Bool) (t : Tree) → IsPlaced (forward_tsn is_by_mid t)
    → AreByMid is_by_mid t.streams
of_placed true t h = h
of_placed false t h = h

pub to_width : (is_by_mid : Bool) (t : Tree) → t.tsn < 2 ^ 32
    → AllByRecursion IsSkippedStreamInWidth t.streams → IsInWidth (forward_tsn is_by_mid t)
to_width true t tsn streams = record { tsn = tsn; streams = streams }
to_width false t tsn streams = record { tsn = tsn; streams = streams }

-- the bytes of streams that are seen as trees, by the size of each
pub counted : {S : Type 0} (stream : S → SkippedStreamTree) (is_by_mid : Bool) (xs : List S)
    (size : ℕ) → size ≡ stream_size is_by_mid
    → size * length xs ≡ stream_size is_by_mid * length (map stream xs)
counted stream is_by_mid xs size e = rw (e, length-map xs stream) refl

-- the size of the chunk
size_is : (is_by_mid : Bool) (t : Tree) → size_of (chunk_tlv (forward_tsn is_by_mid t))
    ≡ 8 + stream_size is_by_mid * length t.streams
size_is true t = omega arith
size_is false t = omega arith

-- header, TSN and streams, each written after what was written
pub forward_tsn_written : (is_by_mid : Bool) (t : Tree) (typ n : ℕ) (old headed one out : List ℕ)
    → typ ≡ chunk_type is_by_mid → n ≡ 4 + stream_size is_by_mid * length t.streams
    → size_of (chunk_tlv (forward_tsn is_by_mid t)) ≤ length old → 4 ≤ length headed
    → headed ≡ header typ 0 n ++ drop 4 old
    → one ≡ put headed 4 (to_be_bytes w32 t.tsn)
    → out ≡ put one 8 (flat_map (stream_bytes is_by_mid) t.streams)
    → out ≡ with_item (chunk_tlv (forward_tsn is_by_mid t)) old
forward_tsn_written is_by_mid t typ n old headed one out is sized room long h p q =
    let front = to_be_bytes w32 t.tsn in
    let back = flat_map (stream_bytes is_by_mid) t.streams in
    let all : List ℕ = front ++ back in
    let size : length all ≡ 4 + stream_size is_by_mid * length t.streams =
    (let l = length-append front back in
    let k = length-each (stream_bytes is_by_mid) (stream_size is_by_mid) t.streams
    (length-stream is_by_mid) in omega (arith, l, k)) in
    let fits : 4 + length all ≤ length old = omega (arith, room, size, size_is is_by_mid t) in
    let same : solid_tlv typ 0 all ≡ chunk_tlv (forward_tsn is_by_mid t) =
    (λ k. flagged_tlv (is k) 0 (size k) all) ∙ sym (tlv_is is_by_mid t) in
    q ∙ ap (λ (xs : List ℕ). put xs 8 back) p
    ∙ put-put headed 4 8 front back long refl
    ∙ written_value typ 0 n all old headed (sized ∙ sym size) fits h
    ∙ solid_item (solid_tlv typ 0 all) all old refl refl fits
    ∙ ap (λ (u : Tlv). with_item u old) same

-- what each has as it is seen
of_map : {A B : Type 0} (P : B → Type 0) (f : A → B) (xs : List A) → AllByRecursion P (map f xs)
    → AllByRecursion (λ x. P (f x)) xs
of_map P f [] h = tt
of_map P f (x ∷ xs) h = (h.0, of_map P f xs h.1)

pub each_of_map : {A B : Type 0} (P : B → Type 0) (f : A → B) (xs : List A)
    → AllByRecursion P (map f xs) → All (λ x. P (f x)) xs
each_of_map P f xs h = All-from_recursion (λ x. P (f x)) xs (of_map P f xs h)
