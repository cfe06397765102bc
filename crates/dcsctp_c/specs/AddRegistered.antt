-- What a C program adds of the types that have no kind of their own: of a struct the numbers, and of
-- bytes the address and the rest, which lie in them where the struct says.
use Rattle.std.specs.{Prelude.{ℕ, List, [], ◌∷◌, if◌then◌else◌, Option, Some, None, length}, Option.{option_and_then}}
use Rattle.dcsctp_wire.specs.Chunk.{ChunkTree}
use Rattle.dcsctp_buffer.specs.Buffer.{IsBegun}
use Rattle.dcsctp_registry.specs.{Layout.{Registered, with_numbers, has_none, is_nothing, laid_out}, Registered.{layout_in}, Row.{Row}}
use Rattle.dcsctp_registry.specs.declared.layout.Layout.{Layout}
use Rattle.dcsctp_c.specs.{Output.{Output}, Part.{part_at}, Writing.{AddsChunk, AddsNothing}}
use Rattle.dcsctp_c.specs.declared.structs.DcsctpRegistered.{DcsctpRegistered}

-- what the struct says of the bytes, by a layout; nothing where these aren't as the layout has them
abbrev pub value_by : List ℕ → DcsctpRegistered → Layout → Option Registered
value_by bytes s l =
    laid_out (with_numbers l (s.number ∷ s.second_number ∷ [])
    (s.short_number ∷ s.second_short_number ∷ s.third_short_number ∷ [])
    (if has_none l.address then None else part_at bytes s.address_offset s.address_size)
    (if is_nothing l.rest then None else part_at bytes s.rest_offset s.rest_size))

-- the same by the layout of a type, if it has a row
abbrev pub value_with : List Row → ℕ → List ℕ → DcsctpRegistered → Option Registered
value_with rows typ bytes s = option_and_then (value_by bytes s) (layout_in rows typ)

-- the chunk is added, if there is one
abbrev pub AddsSomeChunk : Option ChunkTree → Output → Output → ℕ → Type 0
AddsSomeChunk (Some t) old new code = AddsChunk t old new code
AddsSomeChunk None old new code = AddsNothing (IsBegun (length old.bytes) old.size) old new code
