-- I-FORWARD-TSN (RFC 8260 section 2.3.1): type 194, flags ignored; the value is the new cumulative
-- TSN, four bytes, and then the skipped streams: the stream id, two bytes, two more whose lowest
-- bit says unordered, and the message id, four bytes.
use Rattle.std.specs.{Prelude.{◌≡◌, ℕ, ◌%◌, true, List, [], ◌∷◌, ◌++◌, ◌==◌, Result, if◌then◌else◌, length, drop, codes, refl}, Int.{w16, w32}}
use Rattle.dcsctp_tlv.specs.Kind.{Fault, number16, number32, numbers, Format, Kind, plain_kind, Varied}
use Rattle.dcsctp_chunk.specs.{SkippedStreams.{SkippedStreamTree, BySsn, ByMid, Tree, tree_of, read_of, format_of}, declared.iforward_tsn_chunk.IForwardTsnChunk.{IForwardTsnChunk}}

-- all bits but the lowest of the two bytes after the stream id are ignored
abbrev pub stream_at : List ℕ → SkippedStreamTree
stream_at bytes =
    ByMid (number16 bytes) (number16 (drop 2 bytes) % 2 == 1) (number32 (drop 4 bytes))

-- zeros replace a sequence number, which has no place: it isn't well-formed here, and isn't
-- written
abbrev pub stream_bytes : SkippedStreamTree → List ℕ
stream_bytes (BySsn stream ssn) = numbers w32 (0 ∷ 0 ∷ [])
stream_bytes (ByMid stream is_unordered mid) =
    numbers w16 (stream ∷ (if is_unordered then 1 else 0) ∷ []) ++ numbers w32 (mid ∷ [])

-- for the format's `sized`, which can cite no proof of its own crate
pub length-stream : (s : SkippedStreamTree) → length (stream_bytes s) ≡ 8
length-stream (BySsn stream ssn) = refl
length-stream (ByMid stream is_unordered mid) = refl

abbrev pub read : List ℕ → Result Tree Fault
read value = read_of stream_at 8 value

-- the text before the TSN
abbrev pub name : List ℕ
name = codes "I-FORWARD-TSN, new_cumulative_tsn="

abbrev pub format : Tree → Format
format t = format_of 194 name stream_bytes 8 length-stream true t

abbrev pub view : IForwardTsnChunk → Tree
view c = tree_of c.new_cumulative_tsn c.skipped_streams.items

abbrev pub kind : Kind
kind = plain_kind 194 Varied (λ flags. read) format
