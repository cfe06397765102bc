-- A packet that owns its bytes (RFC 9260 section 3).
use Rattle.std.specs.Prelude.{◌≡◌, ℕ, List, Result, Ok, Err}
use Rattle.dcsctp_tlv.specs.{Frame.{lenient}, Level.{MeansSome}}
use Rattle.dcsctp_wire.specs.{Chunk.{chunks}, Packet.{PacketFault, HasPacketSize, Answer, IsPacket, body}, declared.packet.sctp_packet.ChecksumPolicy.{ChecksumPolicy}}

-- ---- its value

pub record OwnedBytes : Type 0 where
  pub bytes : List ℕ
  -- how many bytes its memory has room for
  pub reserved : ℕ

-- The bytes are a packet to a reader that accepts each checksum field and ignores padding.
pub record HoldsPacket (bytes : List ℕ) : Type 0 where
  pub size : HasPacketSize bytes
  pub chunks : MeansSome (chunks lenient) (body bytes)

-- ---- what is kept

-- The grammar's answer, with the bytes themselves in place of the packet.
abbrev pub Kept : List ℕ → ℕ → ChecksumPolicy → Result (List ℕ) PacketFault → Type 0
Kept bytes word policy (Ok kept) = IsPacket bytes word policy × (kept ≡ bytes)
Kept bytes word policy (Err e) = Answer bytes word policy (Err e)
