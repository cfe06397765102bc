-- What a C program reads of the types that have no kind of their own: of a struct the numbers, and
-- of bytes the address and the rest, which lie in them where the struct says.
use Rattle.std.specs.{Prelude.{◌≡◌, ◌+◌, ◌-◌, ◌≤◌, min, ℕ, List, [], Option, Some, None, option_map, length}, Option.{option_and_then, unwrap_or}}
use Rattle.dcsctp_registry.specs.{CauseLayouts.{cause_rows}, ChunkLayouts.{chunk_rows}, Layout.{Registered, count_at, front_size, header_size, read}, ParameterLayouts.{parameter_rows}, Registered.{read_in}}
use Rattle.dcsctp_registry.specs.declared.layout.Layout.{Layout}
use Rattle.dcsctp_c.specs.{Part.{part_at, value_at}, Parameter.{parameter_value}}
use Rattle.dcsctp_c.specs.declared.structs.{DcsctpChunk.{DcsctpChunk}, DcsctpParameter.{DcsctpParameter}, DcsctpRegistered.{DcsctpRegistered}}

-- what the chunk holds; nothing of another type, or of a value that isn't laid out as its type's
abbrev pub registered_chunk_at : List ℕ → DcsctpChunk → Option Registered
registered_chunk_at bytes c = option_and_then (read_in chunk_rows c.typ) (value_at bytes c)

abbrev pub registered_parameter_at : List ℕ → DcsctpParameter → Option Registered
registered_parameter_at bytes p =
    option_and_then (read_in parameter_rows p.typ) (parameter_value bytes p)

abbrev pub registered_cause_at : List ℕ → DcsctpParameter → Option Registered
registered_cause_at bytes p = option_and_then (read_in cause_rows p.typ) (parameter_value bytes p)

-- These bytes lie there, within the value at an offset and of a size; or there are none, and the
-- place is 0.
abbrev pub IsPlace : List ℕ → ℕ → ℕ → Option (List ℕ) → ℕ → ℕ → Type 0
IsPlace bytes offset size (Some xs) start n =
    (part_at bytes start n ≡ Some xs) × (offset ≤ start) × (start + n ≤ offset + size)
IsPlace bytes offset size None start n = (start ≡ 0) × (n ≡ 0)

-- The struct holds what the value at an offset and of a size does, of a chunk with these bits as its
-- flags; a number that its type doesn't have is 0, and the rest is the value's end.
pub record HoldsRegistered (bytes : List ℕ) (bits offset size : ℕ) (r : Registered)
    (s : DcsctpRegistered) : Type 0 where
  pub number : s.number ≡ count_at r.numbers 0
  pub second_number : s.second_number ≡ count_at r.numbers 1
  pub short_number : s.short_number ≡ count_at r.short_numbers 0
  pub second_short_number : s.second_short_number ≡ count_at r.short_numbers 1
  pub third_short_number : s.third_short_number ≡ count_at r.short_numbers 2
  pub flags : s.flags ≡ bits
  pub address : IsPlace bytes offset size r.address s.address_offset s.address_size
  pub rest : IsPlace bytes offset size r.rest s.rest_offset s.rest_size
  pub ends : (left : List ℕ) → r.rest ≡ Some left → s.rest_offset + s.rest_size ≡ offset + size

-- ---- the struct: private functions alone cite this

abbrev pub start_of : ℕ → Option (List ℕ) → ℕ
start_of n (Some xs) = n
start_of n None = 0

abbrev pub length_of : Option (List ℕ) → ℕ
length_of found = length (unwrap_or found [])

abbrev pub struct_of : Registered → ℕ → ℕ → ℕ → DcsctpRegistered
struct_of r flags offset size = record {
  number = count_at r.numbers 0;
  second_number = count_at r.numbers 1;
  short_number = count_at r.short_numbers 0;
  second_short_number = count_at r.short_numbers 1;
  third_short_number = count_at r.short_numbers 2;
  flags = flags;
  address_offset =
      start_of (offset + min (front_size r.layout + header_size r.layout.address) size) r.address;
  address_size = length_of r.address;
  rest_offset = start_of (offset + (size - length_of r.rest)) r.rest;
  rest_size = length_of r.rest;
}

-- what a value of a layout holds that lies at an offset, as the struct
abbrev pub struct_by : Layout → List ℕ → ℕ → ℕ → Option DcsctpRegistered
struct_by l value flags offset =
    option_map (λ r. struct_of r flags offset (length value)) (read l value)
