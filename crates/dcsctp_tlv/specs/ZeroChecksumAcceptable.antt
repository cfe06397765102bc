-- Zero Checksum Acceptable (RFC 9653 section 4): type 0x8001; the value is the method's identifier,
-- four bytes.
use Rattle.std.specs.{Prelude.{ℕ, ◌<◌, ◌^◌, List, ◌++◌, ◌==◌, Result, Ok, Err, if◌then◌else◌, length, codes, refl}, Fmt.{decimal}, Int.{w32, to_be_bytes}}
use Rattle.dcsctp_tlv.specs.{Kind.{Fault, Length, number32, Format, sized_tlv, Kind, plain_kind, Fixed}, declared.parameter.zero_checksum_acceptable_parameter.ZeroChecksumAcceptableParameter.{ZeroChecksumAcceptableParameter}}

abbrev pub read : List ℕ → Result ℕ Fault
read value = if length value == 4 then Ok (number32 value) else Err Length

abbrev pub format : ℕ → Format
format method = record {
  tlv = sized_tlv 0x8001 4 (to_be_bytes w32 method);
  sized = refl;
  text = codes "Zero Checksum Acceptable, method=" ++ decimal method;
  IsInWidth = method < 2 ^ 32;
  IsWellFormed = Unit {0};
}

abbrev pub view : ZeroChecksumAcceptableParameter → ℕ
view p = p.method.0

abbrev pub kind : Kind
kind = plain_kind 0x8001 Fixed (λ flags. read) format
