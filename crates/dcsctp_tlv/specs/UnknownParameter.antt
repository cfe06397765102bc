-- A parameter or an error cause of a type that isn't named: kept as it is, with its type (RFC 9260
-- sections 3.2.1 and 3.3.10).
use Rattle.std.specs.{Prelude.{ℕ, ◌<◌, ◌^◌, List, ◌++◌, Result, Ok, length, codes}, Fmt.{decimal}}
use Rattle.dcsctp_tlv.specs.{Kind.{Fault, AreBytes, Format, sized_tlv, length-solid}, declared.parameter.unknown_parameter.UnknownParameter.{UnknownParameter}}

pub record Tree : Type 0 where
  pub typ : ℕ
  pub value : List ℕ

abbrev pub read : ℕ → List ℕ → Result Tree Fault
read typ value = Ok (record { typ = typ; value = value })

pub record IsInWidth (u : Tree) : Type 0 where
  pub typ : u.typ < 2 ^ 16
  pub value : AreBytes u.value

-- a table adds which types its rows of this kind can have
abbrev pub format : Tree → Format
format u = record {
  tlv = sized_tlv u.typ (length u.value) u.value;
  sized = length-solid u.value;
  text = codes "Unknown parameter, type=" ++ decimal u.typ;
  IsInWidth = IsInWidth u;
  IsWellFormed = Unit {0};
}

abbrev pub view : UnknownParameter → Tree
view p = record { typ = p.typ; value = p.value.items }
