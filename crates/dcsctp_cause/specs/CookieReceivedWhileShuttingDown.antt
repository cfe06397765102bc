-- Cookie Received While Shutting Down (RFC 9260 section 3.3.10.10): code 10, an empty value.
use Rattle.std.specs.Prelude.{ℕ, List, [], ◌==◌, Result, Ok, Err, if◌then◌else◌, length, codes, refl}
use Rattle.dcsctp_tlv.specs.Kind.{Fault, Length, Format, sized_tlv, Kind, plain_kind, Fixed}
use Rattle.dcsctp_cause.specs.declared.cookie_received_while_shutting_down.CookieReceivedWhileShuttingDownErrorCause.{CookieReceivedWhileShuttingDownErrorCause}

abbrev pub read : List ℕ → Result (Unit {0}) Fault
read value = if length value == 0 then Ok tt else Err Length

abbrev pub format : Unit {0} → Format
format c = record {
  tlv = sized_tlv 10 0 [];
  sized = refl;
  text = codes "Cookie Received While Shutting Down";
  IsInWidth = Unit {0};
  IsWellFormed = Unit {0};
}

abbrev pub view : CookieReceivedWhileShuttingDownErrorCause → Unit {0}
view c = tt

abbrev pub kind : Kind
kind = plain_kind 10 Fixed (λ flags. read) format
