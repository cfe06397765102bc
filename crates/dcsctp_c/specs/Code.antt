-- The codes that C programs get for whole packets (RFC 9260 section 3), and the policy that they
-- ask for. No standard has these numbers.
use Rattle.std.specs.Prelude.{◌≡◌, ℕ, List, if◌then◌else◌, Result, Ok, Err}
use Rattle.dcsctp_wire.specs.{Fault.{Length, Padding, Value}, Packet.{PacketTree, PacketFault, Size, Checksum, Chunk, Answer}, declared.packet.sctp_packet.ChecksumPolicy.{ChecksumPolicy}}
use Rattle.dcsctp_buffer.specs.{declared.error.WriteError.{WriteError}, declared.error.WriteError.TheVariants.{BadPlace, BadValue, NoRoom}}
use Rattle.dcsctp_c.specs.declared.structs.DcsctpPolicy.{DcsctpPolicy}

-- the policy that the struct asks for; method 1 is the one of RFC 9653
abbrev pub policy_of : DcsctpPolicy → ChecksumPolicy
policy_of p = record {
  disable_checksum_verification = p.any_checksum;
  zero_checksum_alternate_error_detection_method =
      record { 0 = if p.zero_checksum then 1 else 0 };
  strict_padding = p.strict_padding;
}

abbrev pub fault_code : PacketFault → ℕ
fault_code Size = 1
fault_code Checksum = 2
fault_code (Chunk Length) = 3
fault_code (Chunk Value) = 4
fault_code (Chunk Padding) = 5

-- zero for a packet, or the code of its fault
abbrev pub answer_code : Result PacketTree PacketFault → ℕ
answer_code (Ok p) = 0
answer_code (Err e) = fault_code e

-- of a packet for which an allocation failed, whose output is too small, or that can't be written
abbrev pub no_memory_code : ℕ
no_memory_code = 6

abbrev pub no_room_code : ℕ
no_room_code = 7

abbrev pub too_long_code : ℕ
too_long_code = 8

-- of what isn't written: it can't be, or there is no packet to add it to
abbrev pub bad_value_code : ℕ
bad_value_code = 9

abbrev pub bad_place_code : ℕ
bad_place_code = 10

abbrev pub write_code : WriteError → ℕ
write_code NoRoom = no_room_code
write_code BadValue = bad_value_code
write_code BadPlace = bad_place_code

-- The code of what the grammar gives: it has an answer, and each that it has is of this code.
pub record IsAnswerCode (bytes : List ℕ) (word : ℕ) (policy : ChecksumPolicy)
    (code : ℕ) : Type 0 where
  pub some : (a : Result PacketTree PacketFault) × Answer bytes word policy a
      × (code ≡ answer_code a)
  pub each : (a : Result PacketTree PacketFault) → Answer bytes word policy a
      → code ≡ answer_code a
