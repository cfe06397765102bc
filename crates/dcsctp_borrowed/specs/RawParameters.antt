-- Parameters that are read in their bytes (RFC 9260 section 3.2.1): in which chunks, and where.
use Rattle.std.specs.Prelude.{◌==◌, ◌||◌, ℕ, List, if◌then◌else◌, nat_le, Option, Some, None, length, drop}
use Rattle.dcsctp_tlv.specs.Parameter.{ParameterTree}
use Rattle.dcsctp_wire.specs.Chunk.{ChunkTree, Init, InitAck, HeartbeatRequest, HeartbeatAck, ReConfig}

-- Where a chunk of this type has its parameters: INIT and INIT ACK after sixteen bytes of numbers
-- (RFC 9260 sections 3.3.2 and 3.3.3); HEARTBEAT, HEARTBEAT ACK (sections 3.3.5 and 3.3.6) and
-- RE-CONFIG (RFC 6525 section 3.1) in all of the value; no other.
abbrev pub parameter_bytes : ℕ → List ℕ → Option (List ℕ)
parameter_bytes typ value =
    if typ == 1 || typ == 2 then (if nat_le 16 (length value) then Some (drop 16 value) else None)
    else (if typ == 4 || typ == 5 || typ == 130 then Some value else None)

-- the parameters of such a chunk; nothing of any other
abbrev pub parameters_of : ChunkTree → Option (List ParameterTree)
parameters_of (Init i) = Some i.parameters
parameters_of (InitAck i) = Some i.parameters
parameters_of (HeartbeatRequest ps) = Some ps
parameters_of (HeartbeatAck ps) = Some ps
parameters_of (ReConfig ps) = Some ps
parameters_of t = None
