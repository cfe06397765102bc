-- COOKIE ACK (RFC 9260 section 3.3.12): type 11, flags ignored, an empty value.
use Rattle.std.specs.Prelude.{ℕ, List, [], ◌==◌, Result, Ok, Err, if◌then◌else◌, length, codes, refl}
use Rattle.dcsctp_tlv.specs.Kind.{Fault, Length, Format, flagged_tlv, Kind, plain_kind, Fixed}
use Rattle.dcsctp_chunk.specs.declared.cookie_ack_chunk.CookieAckChunk.{CookieAckChunk}

abbrev pub read : List ℕ → Result (Unit {0}) Fault
read value = if length value == 0 then Ok tt else Err Length

abbrev pub format : Unit {0} → Format
format c = record {
  tlv = flagged_tlv 11 0 0 [];
  sized = refl;
  text = codes "COOKIE-ACK";
  IsInWidth = Unit {0};
  IsWellFormed = Unit {0};
}

abbrev pub view : CookieAckChunk → Unit {0}
view c = tt

abbrev pub kind : Kind
kind = plain_kind 11 Fixed (λ flags. read) format
