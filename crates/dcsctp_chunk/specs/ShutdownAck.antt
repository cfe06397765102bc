-- SHUTDOWN ACK (RFC 9260 section 3.3.9): type 8, flags ignored, an empty value.
use Rattle.std.specs.Prelude.{ℕ, List, [], ◌==◌, Result, Ok, Err, if◌then◌else◌, length, codes, refl}
use Rattle.dcsctp_tlv.specs.Kind.{Fault, Length, Format, flagged_tlv, Kind, plain_kind, Fixed}
use Rattle.dcsctp_chunk.specs.declared.shutdown_ack_chunk.ShutdownAckChunk.{ShutdownAckChunk}

abbrev pub read : List ℕ → Result (Unit {0}) Fault
read value = if length value == 0 then Ok tt else Err Length

abbrev pub format : Unit {0} → Format
format c = record {
  tlv = flagged_tlv 8 0 0 [];
  sized = refl;
  text = codes "SHUTDOWN-ACK";
  IsInWidth = Unit {0};
  IsWellFormed = Unit {0};
}

abbrev pub view : ShutdownAckChunk → Unit {0}
view c = tt

abbrev pub kind : Kind
kind = plain_kind 8 Fixed (λ flags. read) format
