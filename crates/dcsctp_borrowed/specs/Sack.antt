-- A SACK that is read in its bytes (RFC 9260 section 3.3.4).
use Rattle.std.specs.{Prelude.{◌==◌, ℕ, List, if◌then◌else◌, Option, Some, None}, Result.{result_ok}}
use Rattle.dcsctp_chunk.specs.Sack.{Tree, read}
use Rattle.dcsctp_wire.specs.Chunk.{ChunkTree, Sack}

-- the tree of a SACK; nothing of any other chunk
abbrev pub sack_of : ChunkTree → Option Tree
sack_of (Sack s) = Some s
sack_of t = None

-- What a chunk of this type and this value reads as; nothing where it has another type, or isn't as
-- long as its counts say.
abbrev pub read_sack : ℕ → List ℕ → Option Tree
read_sack typ value = if typ == 3 then result_ok (read value) else None
