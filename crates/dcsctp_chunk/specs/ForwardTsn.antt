-- FORWARD-TSN (RFC 3758 section 3.2): type 192, flags ignored; the value is the new cumulative TSN,
-- four bytes, and then the skipped streams: the stream id and the sequence number, two bytes each.
use Rattle.std.specs.{Prelude.{◌≡◌, ℕ, false, List, [], ◌∷◌, Result, length, drop, codes, refl}, Int.{w16, w32}}
use Rattle.dcsctp_tlv.specs.Kind.{Fault, number16, numbers, Format, Kind, plain_kind, Varied}
use Rattle.dcsctp_chunk.specs.{SkippedStreams.{SkippedStreamTree, BySsn, ByMid, Tree, tree_of, read_of, format_of}, declared.forward_tsn_chunk.ForwardTsnChunk.{ForwardTsnChunk}}

abbrev pub stream_at : List ℕ → SkippedStreamTree
stream_at bytes = BySsn (number16 bytes) (number16 (drop 2 bytes))

-- zeros replace a message id, which has no place: it isn't well-formed here, and isn't written
abbrev pub stream_bytes : SkippedStreamTree → List ℕ
stream_bytes (BySsn stream ssn) = numbers w16 (stream ∷ ssn ∷ [])
stream_bytes (ByMid stream is_unordered mid) = numbers w32 (0 ∷ [])

-- for the format's `sized`, which can cite no proof of its own crate
pub length-stream : (s : SkippedStreamTree) → length (stream_bytes s) ≡ 4
length-stream (BySsn stream ssn) = refl
length-stream (ByMid stream is_unordered mid) = refl

abbrev pub read : List ℕ → Result Tree Fault
read value = read_of stream_at 4 value

-- the text before the TSN
abbrev pub name : List ℕ
name = codes "FORWARD-TSN, new_cumulative_tsn="

abbrev pub format : Tree → Format
format t = format_of 192 name stream_bytes 4 length-stream false t

abbrev pub view : ForwardTsnChunk → Tree
view c = tree_of c.new_cumulative_tsn c.skipped_streams.items

abbrev pub kind : Kind
kind = plain_kind 192 Varied (λ flags. read) format
