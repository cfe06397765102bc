-- Packets whose checksum field holds their CRC32c (RFC 9260 section 6.8).
use Rattle.std.specs.Prelude.{◌≡◌, ◌≢◌, ℕ, false, List, Result, take, drop}
use Rattle.dcsctp_crc32c.specs.Checksum.{packet_word}
use Rattle.dcsctp_wire.specs.Packet.{PacketTree, PacketFault, Answer, checksum_field}
use Rattle.dcsctp_wire.specs.declared.packet.sctp_packet.ChecksumPolicy.{ChecksumPolicy}

-- the policy that accepts the expected word alone, and any padding
abbrev pub verifying : ChecksumPolicy
verifying = record {
  disable_checksum_verification = false;
  zero_checksum_alternate_error_detection_method = record { 0 = 0 };
  strict_padding = false;
}

-- the answer to a packet whose checksum is verified
abbrev pub Verified : List ℕ → Result PacketTree PacketFault → Type 0
Verified bytes answer = Answer bytes (packet_word bytes) verifying answer

-- the same bytes, but for the checksum field
pub record HasOtherField (bytes others : List ℕ) : Type 0 where
  pub before : take 8 others ≡ take 8 bytes
  pub field : checksum_field others ≢ checksum_field bytes
  pub after : drop 12 others ≡ drop 12 bytes
