-- Meanings that a packet (RFC 9260 section 3) can have.
use Rattle.std.specs.{Prelude.{◌≢◌, ◌<◌, ◌^◌, []}, List.{AllByRecursion}}
use Rattle.dcsctp_wire.specs.{Chunk.{IsInWidth as IsChunkInWidth, IsWellFormed as IsChunkWellFormed}, Packet.{Meaning}}

-- every number lies in its field's width, and every text is one
pub record IsInWidth (m : Meaning) : Type 0 where
  pub source : m.source < 2 ^ 16
  pub destination : m.destination < 2 ^ 16
  pub tag : m.tag < 2 ^ 32
  pub each : AllByRecursion IsChunkInWidth m.chunks

-- each chunk is well-formed, and there is one at least
pub record IsWellFormed (m : Meaning) : Type 0 where
  pub each : AllByRecursion IsChunkWellFormed m.chunks
  pub some : m.chunks ≢ []
