-- The chunks that hold error causes (RFC 9260 sections 3.3.7 and 3.3.10).
use Rattle.std.specs.Prelude.{Bool, true, false}
use Rattle.dcsctp_wire.specs.Caller.{ChunkTree}
use Rattle.dcsctp_wire.specs.Chunk as tree

abbrev pub has_causes : ChunkTree → Bool
has_causes (tree.Abort a) = true
has_causes (tree.Error causes) = true
has_causes t = false
