-- HEARTBEAT (RFC 9260 section 3.3.5) and HEARTBEAT ACK (section 3.3.6) with a Heartbeat Info alone.
use Rattle.std.specs.Prelude.{ℕ, Bool, List, [], ◌∷◌, if◌then◌else◌}
use Rattle.dcsctp_tlv.specs.Parameter.{HeartbeatInfo}
use Rattle.dcsctp_wire.specs.Chunk.{ChunkTree, HeartbeatRequest, HeartbeatAck}
use Rattle.dcsctp_buffer.specs.declared.heartbeat.BorrowedHeartbeat.{BorrowedHeartbeat}

abbrev pub heartbeat : Bool → List ℕ → ChunkTree
heartbeat is_ack info =
    if is_ack then HeartbeatAck (HeartbeatInfo info ∷ []) else HeartbeatRequest
    (HeartbeatInfo info ∷ [])

abbrev pub view : BorrowedHeartbeat → ChunkTree
view h = heartbeat h.is_ack h.info.now
