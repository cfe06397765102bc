-- User-Initiated Abort (RFC 9260 section 3.3.10.12): code 12; the value is the upper layer's
-- reason. It is read as a text, whatever its bytes are.
use Rattle.std.specs.{Prelude.{ℕ, List, ◌++◌, Result, Ok, length, codes}, String.{string_bytes}}
use Rattle.dcsctp_tlv.specs.Kind.{Fault, Format, sized_tlv, length-solid, Kind, plain_kind, Text}
use Rattle.dcsctp_cause.specs.{Text.{text_or, IsText}, declared.user_initiated_abort_error_cause.UserInitiatedAbortErrorCause.{UserInitiatedAbortErrorCause}}

-- what a value that isn't UTF-8 is read as
abbrev pub unreadable : List ℕ
unreadable = codes "Failed to parse abort reason"

abbrev pub read : List ℕ → Result (List ℕ) Fault
read value = Ok (text_or unreadable value)

abbrev pub format : List ℕ → Format
format reason = record {
  tlv = sized_tlv 12 (length reason) reason;
  sized = length-solid reason;
  text = codes "User-Initiated Abort, reason=" ++ reason;
  IsInWidth = IsText reason;
  IsWellFormed = Unit {0};
}

abbrev pub view : UserInitiatedAbortErrorCause → List ℕ
view c = string_bytes c.reason

abbrev pub kind : Kind
kind = plain_kind 12 Text (λ flags. read) format
