-- What the library keeps as bytes, by the layout of its type: a chunk, a parameter or an error cause
-- that IANA's registry of SCTP or a draft has, and that no kind reads.
use Rattle.std.specs.{Prelude.{◌==◌, ℕ, List, [], ◌∷◌, if◌then◌else◌, Option, Some, None}, Option.{option_and_then}}
use Rattle.dcsctp_tlv.specs.Parameter.{ParameterTree}
use Rattle.dcsctp_tlv.specs.Parameter as parameter
use Rattle.dcsctp_cause.specs.Cause.{CauseTree}
use Rattle.dcsctp_cause.specs.Cause as cause
use Rattle.dcsctp_wire.specs.Chunk.{ChunkTree}
use Rattle.dcsctp_wire.specs.Chunk as chunk
use Rattle.dcsctp_registry.specs.{Layout.{Registered, read}, Row.{Row}, ChunkLayouts.{chunk_rows}, ParameterLayouts.{parameter_rows}, CauseLayouts.{cause_rows}}
use Rattle.dcsctp_registry.specs.declared.layout.Layout.{Layout}

-- the layout of a type; nothing of one that has no row
abbrev pub layout_in : List Row → ℕ → Option Layout
layout_in [] typ = None
layout_in (row ∷ rows) typ = if typ == row.typ then Some row.layout else layout_in rows typ

-- what a value of a type holds; nothing where the type has no row, or the value isn't laid out so
abbrev pub read_in : List Row → ℕ → List ℕ → Option Registered
read_in rows typ value = option_and_then (λ l. read l value) (layout_in rows typ)

-- What the bytes hold that the owned packet keeps; nothing of what it names.
abbrev pub registered_chunk : ChunkTree → Option Registered
registered_chunk (chunk.Unknown u) = read_in chunk_rows u.typ u.value
registered_chunk t = None

abbrev pub registered_parameter : ParameterTree → Option Registered
registered_parameter (parameter.Unknown u) = read_in parameter_rows u.typ u.value
registered_parameter t = None

abbrev pub registered_cause : CauseTree → Option Registered
registered_cause (cause.Unknown u) = read_in cause_rows u.typ u.value
registered_cause t = None
