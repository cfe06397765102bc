-- SSN/TSN Reset Request (RFC 6525 section 4.3): type 15; the value is the request number, four
-- bytes.
use Rattle.std.specs.{Prelude.{ℕ, ◌<◌, ◌^◌, List, ◌++◌, ◌==◌, Result, Ok, Err, if◌then◌else◌, length, codes, refl}, Fmt.{decimal}, Int.{w32, to_be_bytes}}
use Rattle.dcsctp_tlv.specs.{Kind.{Fault, Length, number32, Format, sized_tlv, Kind, plain_kind, Fixed}, declared.parameter.ssn_tsn_reset_request_parameter.SsnTsnResetRequestParameter.{SsnTsnResetRequestParameter}}

abbrev pub read : List ℕ → Result ℕ Fault
read value = if length value == 4 then Ok (number32 value) else Err Length

abbrev pub format : ℕ → Format
format request = record {
  tlv = sized_tlv 15 4 (to_be_bytes w32 request);
  sized = refl;
  text = codes "SSN/TSN Reset Request, req_seq_nbr=" ++ decimal request;
  IsInWidth = request < 2 ^ 32;
  IsWellFormed = Unit {0};
}

abbrev pub view : SsnTsnResetRequestParameter → ℕ
view p = p.request_seq_nbr

abbrev pub kind : Kind
kind = plain_kind 15 Fixed (λ flags. read) format
