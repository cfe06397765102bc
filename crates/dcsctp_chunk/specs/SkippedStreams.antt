-- Streams that are skipped: each by a sequence number (RFC 3758 section 3.2), or by a message id
-- (RFC 8260 section 2.3.1); and what the chunks that hold them have in common.
use Rattle.std.specs.{Prelude.{◌≡◌, ℕ, ◌+◌, ◌-◌, ◌*◌, ◌/◌, ◌<◌, ◌^◌, Bool, true, false, not, List, ◌∷◌, [], ◌++◌, ◌==◌, Result, Ok, Err, if◌then◌else◌, length, drop, map}, Fmt.{decimal}, Int.{w32, to_be_bytes}, List.{AllByRecursion}}
use Rattle.dcsctp_types.specs.{StreamKey.{stream_of, is_ordered_key}, declared.types.tsn.Tsn.{Tsn}}
use Rattle.dcsctp_tlv.specs.{Kind.{Fault, Length, fields, number32, Format, length-fields}, Fields.{numbers_and_fields_tlv}, declared.skipped_stream.SkippedStream.{SkippedStream}, declared.skipped_stream.SkippedStream.TheVariants.{ForwardTsn, IForwardTsn}}
use Rattle.dcsctp_chunk.specs.declared.forward_tsn_chunk.ForwardTsnNumbers.{ForwardTsnNumbers}

pub data SkippedStreamTree : Type 0 where
  -- the stream, and the sequence number of the last message that is skipped
  BySsn : ℕ → ℕ → SkippedStreamTree
  -- the stream, whether its unordered messages are skipped, and the id of the last of them
  ByMid : ℕ → Bool → ℕ → SkippedStreamTree

abbrev pub is_by_mid : SkippedStreamTree → Bool
is_by_mid (BySsn stream ssn) = false
is_by_mid (ByMid stream is_unordered mid) = true

-- each of them is skipped by a message id, or each by a sequence number
abbrev pub AreByMid : Bool → List SkippedStreamTree → Type 0
AreByMid by_mid streams = AllByRecursion (λ s. is_by_mid s ≡ by_mid) streams

-- its numbers lie in their fields' widths
abbrev pub IsSkippedStreamInWidth : SkippedStreamTree → Type 0
IsSkippedStreamInWidth (BySsn stream ssn) = (stream < 2 ^ 16) × (ssn < 2 ^ 16)
IsSkippedStreamInWidth (ByMid stream is_unordered mid) = (stream < 2 ^ 16) × (mid < 2 ^ 32)

abbrev pub skipped_stream_view : SkippedStream → SkippedStreamTree
skipped_stream_view (ForwardTsn stream ssn) = BySsn stream.0 ssn.0
skipped_stream_view (IForwardTsn key mid) =
    ByMid (stream_of key).0 (not (is_ordered_key key)) mid.0

abbrev pub skipped_stream_views : List SkippedStream → List SkippedStreamTree
skipped_stream_views streams = map skipped_stream_view streams

-- ---- a chunk with skipped streams, FORWARD-TSN or I-FORWARD-TSN: the new cumulative TSN, and them

pub record Tree : Type 0 where
  pub tsn : ℕ
  pub streams : List SkippedStreamTree

abbrev pub tree_of : Tsn → List SkippedStream → Tree
tree_of tsn streams = record { tsn = tsn.0; streams = skipped_stream_views streams }

-- how many streams of a size follow the TSN
abbrev pub stream_count : ℕ → List ℕ → ℕ
stream_count size value = (length value - 4) / size

-- By how a stream is read, and in how many bytes it lies: the value has at least 4 bytes, and after
-- them a multiple of that size.
abbrev pub read_of : (List ℕ → SkippedStreamTree) → ℕ → List ℕ → Result Tree Fault
read_of stream_at size value =
    if length value == 4 + size * stream_count size value then Ok (record {
      tsn = number32 value;
      streams = fields stream_at size (stream_count size value) (drop 4 value);
    }) else
    Err Length

-- the number of the code before the streams, as it is read and written
abbrev pub numbers_at : List ℕ → ForwardTsnNumbers
numbers_at value = record { new_cumulative_tsn = record { 0 = number32 value } }

abbrev pub number_bytes : ForwardTsnNumbers → List ℕ
number_bytes n = to_be_bytes w32 n.new_cumulative_tsn.0

-- every number lies in its field's width
pub record IsInWidth (t : Tree) : Type 0 where
  pub tsn : t.tsn < 2 ^ 32
  pub streams : AllByRecursion IsSkippedStreamInWidth t.streams

-- How such a chunk is written and printed: its type and the text before the TSN, how a stream is
-- written and in how many bytes, and by what each is skipped.
abbrev pub format_of : ℕ → List ℕ → (bytes : SkippedStreamTree → List ℕ) (size : ℕ)
    → ((s : SkippedStreamTree) → length (bytes s) ≡ size) → Bool → Tree → Format
format_of typ name bytes size sized by_mid t = record {
  tlv = numbers_and_fields_tlv typ 0 (t.tsn ∷ []) bytes size t.streams;
  sized = length-fields (t.tsn ∷ []) bytes size t.streams sized;
  text = name ++ decimal t.tsn;
  IsInWidth = IsInWidth t;
  IsWellFormed = AreByMid by_mid t.streams;
}
