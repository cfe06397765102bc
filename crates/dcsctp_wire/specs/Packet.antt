-- What the bytes of a packet mean, under a checksum word and a policy (RFC 9260 section 3, RFC 9653
-- section 5.2).
--
--   | source port u16 | destination port u16 | verification tag u32 | checksum u32 | chunks .. |
use Rattle.std.specs.{Prelude.{◌≡◌, ◌≢◌, ℕ, ◌≤◌, ◌+◌, ◌++◌, Bool, List, Result, Ok, Err, true, length, drop, nat_lt, if◌then◌else◌}, Int.{w16, w32, to_be_bytes}}
use Rattle.dcsctp_tlv.specs.{Fault.{Fault}, Number.{number16, number32}, Level.{MeansTrees, HasFault}, Reading.{Errors, Unplaced, error_of}, declared.error.ChunkParseError.TheVariants.{OutOfMemory}}
use Rattle.dcsctp_wire.specs.{declared.packet.sctp_packet.PacketParseError.{PacketParseError}, declared.packet.sctp_packet.PacketParseError.TheVariants.{InvalidPacketSize, InvalidChecksum, FailedParseChunk}, declared.packet.sctp_packet.ChecksumPolicy.{ChecksumPolicy}, declared.packet.common_header.CommonHeader.{CommonHeader}, declared.packet.sctp_packet.SctpPacket.{SctpPacket}, Chunk.{ChunkTree, chunks, views}}

-- ---- packets as plain data

-- What a packet means. Its checksum field isn't part of it.
pub record Meaning : Type 0 where
  pub source : ℕ
  pub destination : ℕ
  pub tag : ℕ
  pub chunks : List ChunkTree

pub record PacketTree : Type 0 where
  pub meaning : Meaning
  pub checksum : ℕ

-- ---- what is wrong with a packet

pub data PacketFault : Type 0 where
  Size : PacketFault
  Checksum : PacketFault
  Chunk : Fault → PacketFault

-- ---- size and checksum

-- a header and one chunk at least
pub record HasPacketSize (bytes : List ℕ) : Type 0 where
  pub low : 16 ≤ length bytes
  pub high : length bytes ≤ 65535

abbrev pub checksum_field : List ℕ → ℕ
checksum_field bytes = number32 (drop 8 bytes)

-- Verification is off; or another method replaces it, and the field is zero; or the field is the
-- word. A zero is accepted whatever the chunks are: that INIT and COOKIE ECHO have a CRC32c (RFC
-- 9653 section 5.2) is a rule for the caller, who knows whether the method was negotiated.
pub data IsAccepted (policy : ChecksumPolicy) (field word : ℕ) : Type 0 where
  disabled : policy.disable_checksum_verification ≡ true → IsAccepted policy field word
  alternate : policy.zero_checksum_alternate_error_detection_method.0 ≢ 0 → field ≡ 0
      → IsAccepted policy field word
  equal : field ≡ word → IsAccepted policy field word

-- size and checksum are right
pub record IsOpened (bytes : List ℕ) (word : ℕ) (policy : ChecksumPolicy) : Type 0 where
  pub size : HasPacketSize bytes
  pub accepted : IsAccepted policy (checksum_field bytes) word

-- ---- the answer

abbrev pub body : List ℕ → List ℕ
body bytes = drop 12 bytes

-- a packet with the header of these bytes, and these chunks
abbrev pub packet_with : List ℕ → List ChunkTree → PacketTree
packet_with bytes ts = record {
  meaning = record {
    source = number16 bytes;
    destination = number16 (drop 2 bytes);
    tag = number32 (drop 4 bytes);
    chunks = ts;
  };
  checksum = checksum_field bytes;
}

-- it has the header of these bytes, and the chunks that all of the body means
pub record MeansPacket (strict : Bool) (bytes : List ℕ) (p : PacketTree) : Type 0 where
  pub header : p ≡ packet_with bytes p.meaning.chunks
  pub chunks : MeansTrees (chunks strict) (body bytes) p.meaning.chunks

-- The packet, or the first fault and its offset: of the size, the first byte that is missing or too
-- many; then of the checksum, its field; then of the chunks from the left, after the header. The
-- policy says whether padding is looked at.
abbrev pub Placed : List ℕ → ℕ → ChecksumPolicy → Result PacketTree (PacketFault × ℕ) → Type 0
Placed bytes word policy (Ok p) =
    IsOpened bytes word policy × MeansPacket policy.strict_padding bytes p
Placed bytes word policy (Err (Size, n)) = (¬ HasPacketSize bytes)
    × (n ≡ if nat_lt (length bytes) 16 then length bytes else 65535)
Placed bytes word policy (Err (Checksum, n)) =
    HasPacketSize bytes × (¬ IsAccepted policy (checksum_field bytes) word) × (n ≡ 8)
Placed bytes word policy (Err (Chunk e, n)) = IsOpened bytes word policy
    × ((k : ℕ) × HasFault (chunks policy.strict_padding) (body bytes) (e, k) × (n ≡ 12 + k))

-- the same answer, without the place
abbrev pub Answer : List ℕ → ℕ → ChecksumPolicy → Result PacketTree PacketFault → Type 0
Answer bytes word policy = Unplaced (Placed bytes word policy)

-- the bytes are a packet
abbrev pub IsPacket : List ℕ → ℕ → ChecksumPolicy → Type 0
IsPacket bytes word policy = (p : PacketTree) × Answer bytes word policy (Ok p)

-- ---- errors of the readers and the checks of packets

abbrev pub packet_error_of : PacketFault → PacketParseError
packet_error_of Size = InvalidPacketSize
packet_error_of Checksum = InvalidChecksum
packet_error_of (Chunk e) = FailedParseChunk (error_of e)

-- of a reader
abbrev pub packet_reading : Errors PacketFault PacketParseError
packet_reading = record {
  of = packet_error_of;
  out_of_memory = λ e. e ≡ FailedParseChunk OutOfMemory;
}

-- of a check, which does not allocate
abbrev pub packet_checking : Errors PacketFault PacketParseError
packet_checking = record { of = packet_error_of; out_of_memory = λ e. ⊥ }

-- ---- packets of the code

-- the header that these bytes begin with
abbrev pub header_of : List ℕ → CommonHeader
header_of bytes = record {
  source_port = number16 bytes;
  destination_port = number16 (drop 2 bytes);
  verification_tag = number32 (drop 4 bytes);
  checksum = checksum_field bytes;
}

-- the header as it is written
abbrev pub header_bytes : CommonHeader → List ℕ
header_bytes h =
    to_be_bytes w16 h.source_port ++ (to_be_bytes w16 h.destination_port
    ++ (to_be_bytes w32 h.verification_tag ++ to_be_bytes w32 h.checksum))

-- a packet with this header, and these chunks
abbrev pub with_header : CommonHeader → List ChunkTree → PacketTree
with_header h ts = record {
  meaning = record {
    source = h.source_port;
    destination = h.destination_port;
    tag = h.verification_tag;
    chunks = ts;
  };
  checksum = h.checksum;
}

-- a packet of the code, without where it lies in memory
abbrev pub packet_view : SctpPacket → PacketTree
packet_view p = with_header p.common_header (views p.chunks.items)

abbrev pub meaning_view : SctpPacket → Meaning
meaning_view p = (packet_view p).meaning
