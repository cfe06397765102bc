-- FORWARD-TSN and I-FORWARD-TSN: what is written is read again, and what was read is well-formed
-- and keeps its size.
use Rattle.std.{proofs.Common.{◌≡◌, ℕ, ◌+◌, ◌-◌, ◌*◌, ◌/◌, Bool, true, false, List, [], ◌∷◌, ◌++◌, length, drop, refl, arith, true≢false}, specs.Int.{w32}, specs.List.{AllByRecursion}, proofs.lemmas.Bool.{false≢true}, proofs.lemmas.Nat.{from_be_bytes-to_be_bytes_2, from_be_bytes-to_be_bytes_4}}
use Rattle.dcsctp_tlv.{specs.Number.{number32, numbers}, proofs.FieldLaws.{FieldLaw, fields_each}, proofs.FormatLaws.{FormatLaws}, proofs.Layouts.{FieldsAfter, fields_laws}}
use Rattle.dcsctp_chunk.specs.SkippedStreams.{SkippedStreamTree, BySsn, ByMid, is_by_mid, AreByMid, IsSkippedStreamInWidth, Tree, format_of}
use Rattle.dcsctp_chunk.specs.ForwardTsn as by_ssn
use Rattle.dcsctp_chunk.specs.IForwardTsn as by_mid

-- ---- skipped streams, of either kind

-- a stream that has a place
abbrev IsPlaced : Bool → SkippedStreamTree → Type 0
IsPlaced by_mid s = IsSkippedStreamInWidth s × (is_by_mid s ≡ by_mid)

placed : (by_mid : Bool) (streams : List SkippedStreamTree)
    → AllByRecursion IsSkippedStreamInWidth streams → AreByMid by_mid streams
    → AllByRecursion (IsPlaced by_mid) streams
placed by_mid [] width own = tt
placed by_mid (s ∷ streams) width own =
    ((width.0, own.0), placed by_mid streams width.1 own.1)

ssn_stream_law : FieldLaw by_ssn.stream_at by_ssn.stream_bytes 4 (IsPlaced false)
ssn_stream_law = record { sized = λ s is. by_ssn.length-stream s; back = again } where
  again : (s : SkippedStreamTree) (rest : List ℕ) → IsPlaced false s
      → by_ssn.stream_at (by_ssn.stream_bytes s ++ rest) ≡ s
  again (BySsn stream ssn) rest is =
      rw (
        from_be_bytes-to_be_bytes_2 stream is.0.0,
        from_be_bytes-to_be_bytes_2 ssn is.0.1,
      ) refl
  again (ByMid stream is_unordered mid) rest is = absurd (true≢false is.1)

mid_stream_law : FieldLaw by_mid.stream_at by_mid.stream_bytes 8 (IsPlaced true)
mid_stream_law = record { sized = λ s is. by_mid.length-stream s; back = again } where
  again : (s : SkippedStreamTree) (rest : List ℕ) → IsPlaced true s
      → by_mid.stream_at (by_mid.stream_bytes s ++ rest) ≡ s
  again (BySsn stream ssn) rest is = absurd (false≢true is.1)
  again (ByMid stream true mid) rest is =
      rw (
        from_be_bytes-to_be_bytes_2 stream is.0.0,
        from_be_bytes-to_be_bytes_4 mid is.0.1,
      ) refl
  again (ByMid stream false mid) rest is =
      rw (
        from_be_bytes-to_be_bytes_2 stream is.0.0,
        from_be_bytes-to_be_bytes_4 mid is.0.1,
      ) refl

abbrev with : List ℕ → List SkippedStreamTree → Tree
with value streams = record { tsn = number32 value; streams = streams }

-- ---- chunks with such streams, of either kind

skipped_fields : (typ : ℕ) (name : List ℕ) (read : List ℕ → SkippedStreamTree)
    (write : SkippedStreamTree → List ℕ) (size : ℕ)
    (sized : (s : SkippedStreamTree) → length (write s) ≡ size) (by_mid : Bool)
    → FieldLaw read write size (IsPlaced by_mid)
    → ((n : ℕ) → (4 + size * n - 4) / size ≡ n)
    → ((bytes : List ℕ) → is_by_mid (read bytes) ≡ by_mid)
    → FieldsAfter 4 size read with (format_of typ name write size sized by_mid) write
    (IsPlaced by_mid)
skipped_fields typ name read write size sized by_mid law counted own = record {
  leading = λ t. numbers w32 (t.tsn ∷ []);
  list = λ t. t.streams;
  law = law;
  counted = counted;
  same = λ t. refl;
  written = λ t. refl;
  placed = λ t. refl;
  made = λ t rest w. rw (from_be_bytes-to_be_bytes_4 t.tsn w.tsn) refl;
  kept = λ value streams. refl;
  writable = λ t w are. placed by_mid t.streams w.streams are;
  formed = λ value n. fields_each read size (λ s. is_by_mid s ≡ by_mid) own n (drop 4 value);
}

ssn_fields : FieldsAfter 4 4 by_ssn.stream_at with by_ssn.format by_ssn.stream_bytes
    (IsPlaced false)
ssn_fields =
    skipped_fields 192 by_ssn.name by_ssn.stream_at by_ssn.stream_bytes 4 by_ssn.length-stream false
    ssn_stream_law (λ n. omega arith) (λ bytes. refl)

pub forward_tsn_laws : FormatLaws by_ssn.read by_ssn.format
forward_tsn_laws = fields_laws 4 4 by_ssn.stream_at with _ _ _ ssn_fields

mid_fields : FieldsAfter 4 8 by_mid.stream_at with by_mid.format by_mid.stream_bytes
    (IsPlaced true)
mid_fields =
    skipped_fields 194 by_mid.name by_mid.stream_at by_mid.stream_bytes 8 by_mid.length-stream true
    mid_stream_law (λ n. omega arith) (λ bytes. refl)

pub iforward_tsn_laws : FormatLaws by_mid.read by_mid.format
iforward_tsn_laws = fields_laws 4 8 by_mid.stream_at with _ _ _ mid_fields
