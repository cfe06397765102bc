-- A packet that is read in its bytes (RFC 9260 section 3): what refers to it, and which packet that
-- is.
use Rattle.std.specs.Prelude.{◌≡◌, ℕ, List, Result, Ok, Err}
use Rattle.dcsctp_wire.specs.{Packet.{PacketTree, PacketFault, Placed, Answer, IsPacket, body, header_of}, declared.packet.sctp_packet.ChecksumPolicy.{ChecksumPolicy}}
use Rattle.dcsctp_borrowed.specs.{RawChunks.{MeanChunks}, declared.packet_ref.SctpPacketRef.{SctpPacketRef}}

-- the numbers of the header, and the bytes of the chunks
abbrev pub reference : List ℕ → SctpPacketRef
reference bytes = record {
  common_header = header_of bytes;
  chunks = body bytes;
}

-- The grammar's answer, with what refers to the packet in place of the packet.
abbrev pub Referred : List ℕ → ℕ → ChecksumPolicy → Result SctpPacketRef PacketFault → Type 0
Referred bytes word policy (Ok r) = IsPacket bytes word policy × (r ≡ reference bytes)
Referred bytes word policy (Err e) = Answer bytes word policy (Err e)

-- The same with the fault's place.
abbrev pub Located : List ℕ → ℕ → ChecksumPolicy → Result SctpPacketRef (PacketFault × ℕ) → Type 0
Located bytes word policy (Ok r) = IsPacket bytes word policy × (r ≡ reference bytes)
Located bytes word policy (Err f) = Placed bytes word policy (Err f)

-- Its numbers are the packet's, and its bytes mean the packet's chunks.
pub record RefersTo (r : SctpPacketRef) (p : PacketTree) : Type 0 where
  pub source : r.common_header.source_port ≡ p.meaning.source
  pub destination : r.common_header.destination_port ≡ p.meaning.destination
  pub tag : r.common_header.verification_tag ≡ p.meaning.tag
  pub checksum : r.common_header.checksum ≡ p.checksum
  pub chunks : MeanChunks r.chunks p.meaning.chunks
