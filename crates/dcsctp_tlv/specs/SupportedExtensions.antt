-- Supported Extensions (RFC 5061 section 4.2.7): type 0x8008; the value is a list of chunk types,
-- one byte each.
use Rattle.std.specs.{Prelude.{ℕ, List, ◌++◌, Result, Ok, length, map, codes}, Fmt.{decimal}}
use Rattle.dcsctp_tlv.specs.{Kind.{Fault, AreBytes, joined, Format, sized_tlv, length-solid, Kind, plain_kind, Varied}, declared.parameter.supported_extensions_parameter.SupportedExtensionsParameter.{SupportedExtensionsParameter}}

abbrev pub read : List ℕ → Result (List ℕ) Fault
read value = Ok value

abbrev pub format : List ℕ → Format
format types = record {
  tlv = sized_tlv 0x8008 (length types) types;
  sized = length-solid types;
  text = codes "Supported extensions, chunks=" ++ joined (codes ",") (map decimal types);
  IsInWidth = AreBytes types;
  IsWellFormed = Unit {0};
}

abbrev pub view : SupportedExtensionsParameter → List ℕ
view p = p.chunk_types.items

abbrev pub kind : Kind
kind = plain_kind 0x8008 Varied (λ flags. read) format
