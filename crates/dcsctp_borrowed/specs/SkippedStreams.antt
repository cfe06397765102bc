-- FORWARD-TSN (RFC 3758 section 3.2) and I-FORWARD-TSN (RFC 8260 section 2.3.1) that are read in
-- their bytes.
use Rattle.std.specs.{Prelude.{◌==◌, ℕ, Bool, List, if◌then◌else◌, Option, Some, None}, Result.{result_ok}}
use Rattle.dcsctp_tlv.specs.Fields.{fields}
use Rattle.dcsctp_chunk.specs.ForwardTsn as forward_kind
use Rattle.dcsctp_chunk.specs.IForwardTsn as iforward_kind
use Rattle.dcsctp_chunk.specs.SkippedStreams.{SkippedStreamTree, Tree}
use Rattle.dcsctp_wire.specs.Chunk.{ChunkTree, ForwardTsn, IForwardTsn}

-- `count` streams in a row: each skipped by a message id, in 8 bytes, or by a sequence number, in 4
abbrev pub streams_at : Bool → ℕ → List ℕ → List SkippedStreamTree
streams_at by_mid count bytes =
    if by_mid then fields iforward_kind.stream_at 8 count bytes else
    fields forward_kind.stream_at 4 count bytes

-- the tree of FORWARD-TSN or I-FORWARD-TSN; nothing of any other chunk
abbrev pub forward_of : ChunkTree → Option Tree
forward_of (ForwardTsn f) = Some f
forward_of (IForwardTsn f) = Some f
forward_of t = None

-- What a chunk of this type and this value reads as; nothing where it has another type, or its
-- value isn't the TSN and whole streams.
abbrev pub read_forward : ℕ → List ℕ → Option Tree
read_forward typ value =
    if typ == 192 then result_ok (forward_kind.read value) else
    if typ == 194 then result_ok (iforward_kind.read value) else
    None
