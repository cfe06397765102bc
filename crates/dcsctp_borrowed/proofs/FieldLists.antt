-- Fields of one size in a row: how many they are, the one at a place, and the first.
use Rattle.std.proofs.{Common.{◌≡◌, Bool, true, false, ◌≢◌, ℕ, zero, suc, ◌-◌, ◌*◌, ◌<◌, List, ◌∷◌, Some, length, drop, refl, ap, ◌∙◌, arith, slice_get}, lemmas.List.FromFn.{get_or-map-range_with_len}, lemmas.Option.{slice_get-get_or}}
use Rattle.dcsctp_tlv.{specs.Fields.{fields}, proofs.FieldLaws.{length-fields, fields-first}}
use Rattle.dcsctp_chunk.specs.ForwardTsn as forward_kind
use Rattle.dcsctp_chunk.specs.IForwardTsn as iforward_kind
use Rattle.dcsctp_borrowed.specs.SkippedStreams.{streams_at}

pub field_count : {A : Type 0} (read : List ℕ → A) (size count : ℕ) (bytes : List ℕ)
    → length (fields read size count bytes) ≡ count
field_count read size count bytes = length-fields read size count bytes

pub field_at_place : {A : Type 0} (read : List ℕ → A) (size count : ℕ) (bytes : List ℕ) (i : ℕ)
    → i < count → slice_get (fields read size count bytes) i ≡ Some (read (drop (size * i) bytes))
field_at_place read size count bytes i here =
    let long = length-fields read size count bytes in
    let d = read bytes in
    slice_get-get_or (fields read size count bytes) i d (omega arith)
    ∙ ap Some (get_or-map-range_with_len (λ k. read (drop (size * k) bytes)) 0 count i i d here
    (omega arith))

pub first_field : {A : Type 0} (read : List ℕ → A) (size count : ℕ) (bytes : List ℕ) → count ≢ 0
    → fields read size count bytes ≡ read bytes ∷ fields read size (count - 1) (drop size bytes)
first_field read size zero bytes some = absurd (some refl)
first_field read size (suc n) bytes some = let left : suc n - 1 ≡ n =
    omega arith in rw left (fields-first read size n bytes)

-- skipped streams of either chunk
pub stream_count : (by_mid : Bool) (count : ℕ) (bytes : List ℕ)
    → length (streams_at by_mid count bytes) ≡ count
stream_count true count bytes = length-fields iforward_kind.stream_at 8 count bytes
stream_count false count bytes = length-fields forward_kind.stream_at 4 count bytes
