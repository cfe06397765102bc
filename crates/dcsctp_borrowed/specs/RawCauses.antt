-- Error causes that are read in their bytes (RFC 9260 section 3.3.10): in which chunks, and where.
use Rattle.std.specs.Prelude.{◌==◌, ℕ, List, if◌then◌else◌, nat_lt, Option, Some, None, length}
use Rattle.dcsctp_cause.specs.Cause.{CauseTree}
use Rattle.dcsctp_wire.specs.Chunk.{ChunkTree, Abort, Error}

-- Where a chunk of this type has its causes: ABORT (RFC 9260 section 3.3.7) in all of the value,
-- and so ERROR (section 3.3.10), which has one at least; no other.
abbrev pub cause_bytes : ℕ → List ℕ → Option (List ℕ)
cause_bytes typ value =
    if typ == 6 then Some value else
    if typ == 9 then (if nat_lt 0 (length value) then Some value else None) else
    None

-- the causes of such a chunk; nothing of any other
abbrev pub causes_of : ChunkTree → Option (List CauseTree)
causes_of (Abort a) = Some a.causes
causes_of (Error cs) = Some cs
causes_of t = None
