-- Forward-TSN-Supported (RFC 3758 section 3.1): type 0xC000, an empty value.
use Rattle.std.specs.Prelude.{ℕ, List, [], ◌==◌, Result, Ok, Err, if◌then◌else◌, length, codes, refl}
use Rattle.dcsctp_tlv.specs.{Kind.{Fault, Length, Format, sized_tlv, Kind, plain_kind, Fixed}, declared.parameter.forward_tsn_supported_parameter.ForwardTsnSupportedParameter.{ForwardTsnSupportedParameter}}

abbrev pub read : List ℕ → Result (Unit {0}) Fault
read value = if length value == 0 then Ok tt else Err Length

abbrev pub format : Unit {0} → Format
format p = record {
  tlv = sized_tlv 0xC000 0 [];
  sized = refl;
  text = codes "Forward-TSN supported";
  IsInWidth = Unit {0};
  IsWellFormed = Unit {0};
}

abbrev pub view : ForwardTsnSupportedParameter → Unit {0}
view p = tt

abbrev pub kind : Kind
kind = plain_kind 0xC000 Fixed (λ flags. read) format
