-- A chunk of a type that isn't named: kept as it is, with its type and all its flags (RFC 9260
-- section 3.2).
use Rattle.std.specs.{Prelude.{ℕ, ◌<◌, ◌^◌, List, ◌++◌, Result, Ok, length, codes}, Fmt.{decimal}}
use Rattle.dcsctp_tlv.specs.Kind.{Fault, AreBytes, Format, flagged_tlv, length-solid}
use Rattle.dcsctp_chunk.specs.declared.unknown_chunk.UnknownChunk.{UnknownChunk}

pub record Tree : Type 0 where
  pub typ : ℕ
  pub flags : ℕ
  pub value : List ℕ

abbrev pub read : ℕ → ℕ → List ℕ → Result Tree Fault
read typ flags value = Ok (record { typ = typ; flags = flags; value = value })

-- a table adds which types its rows of this kind can have
abbrev pub format : Tree → Format
format u = record {
  tlv = flagged_tlv u.typ u.flags (length u.value) u.value;
  sized = length-solid u.value;
  text = codes "Unknown chunk, type=" ++ decimal u.typ;
  IsInWidth = (u.typ < 2 ^ 8) × (u.flags < 2 ^ 8) × AreBytes u.value;
  IsWellFormed = Unit {0};
}

abbrev pub view : UnknownChunk → Tree
view c = record { typ = c.typ; flags = c.flags; value = c.value.items }
