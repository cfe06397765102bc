-- FORWARD-TSN (RFC 3758 section 3.2), or I-FORWARD-TSN (RFC 8260 section 2.3.1), that is written
-- from where its skipped streams lie.
use Rattle.std.specs.Prelude.{ℕ, Bool, List, map, if◌then◌else◌}
use Rattle.dcsctp_chunk.specs.SkippedStreams.{SkippedStreamTree, Tree}
use Rattle.dcsctp_chunk.specs.ForwardTsn as by_ssn
use Rattle.dcsctp_chunk.specs.IForwardTsn as by_mid
use Rattle.dcsctp_wire.specs.Chunk.{ChunkTree, ForwardTsn, IForwardTsn}
use Rattle.dcsctp_buffer.specs.declared.forward_tsn.BorrowedForwardTsn.{BorrowedForwardTsn}

-- I-FORWARD-TSN, whose streams are skipped by message ids; or FORWARD-TSN
abbrev pub forward_tsn : Bool → Tree → ChunkTree
forward_tsn is_by_mid t = if is_by_mid then IForwardTsn t else ForwardTsn t

-- the chunk as plain data, by what each stream is in a chunk of either kind
abbrev pub view : {S : Type 0} → (Bool → S → SkippedStreamTree) → BorrowedForwardTsn S → ChunkTree
view stream f = forward_tsn f.by_mid (record {
  tsn = f.new_cumulative_tsn.0;
  streams = map (stream f.by_mid) f.skipped_streams.now;
})

-- the type of the chunk; a stream in it as it is written, and in how many bytes
abbrev pub chunk_type : Bool → ℕ
chunk_type is_by_mid = if is_by_mid then 194 else 192

abbrev pub stream_bytes : Bool → SkippedStreamTree → List ℕ
stream_bytes is_by_mid s = if is_by_mid then by_mid.stream_bytes s else by_ssn.stream_bytes s

abbrev pub stream_size : Bool → ℕ
stream_size is_by_mid = if is_by_mid then 8 else 4
