-- Protocol Violation (RFC 9260 section 3.3.10.13): code 13; the value is additional information. It
-- is read as a text, whatever its bytes are.
use Rattle.std.specs.{Prelude.{ℕ, List, ◌++◌, Result, Ok, length, codes}, String.{string_bytes}}
use Rattle.dcsctp_tlv.specs.Kind.{Fault, Format, sized_tlv, length-solid, Kind, plain_kind, Text}
use Rattle.dcsctp_cause.specs.{Text.{text_or, IsText}, declared.protocol_violation_error_cause.ProtocolViolationErrorCause.{ProtocolViolationErrorCause}}

-- what a value that isn't UTF-8 is read as
abbrev pub unreadable : List ℕ
unreadable = codes "Failed to parse additional information"

abbrev pub read : List ℕ → Result (List ℕ) Fault
read value = Ok (text_or unreadable value)

abbrev pub format : List ℕ → Format
format information = record {
  tlv = sized_tlv 13 (length information) information;
  sized = length-solid information;
  text = codes "Protocol Violation, additional_information=" ++ information;
  IsInWidth = IsText information;
  IsWellFormed = Unit {0};
}

abbrev pub view : ProtocolViolationErrorCause → List ℕ
view c = string_bytes c.information

abbrev pub kind : Kind
kind = plain_kind 13 Text (λ flags. read) format
