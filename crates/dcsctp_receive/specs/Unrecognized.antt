-- What is done with the chunks of a packet, and with the parameters of a chunk, whose types aren't
-- recognized: which are reported, and where processing stops (RFC 9260 sections 3.2, 3.2.1 and
-- 3.2.2).
use Rattle.std.specs.{Prelude.{◌≡◌, ◌+◌, ◌≤◌, ◌==◌, Bool, false, not, ℕ, if◌then◌else◌, List, [], ◌∷◌, ◌++◌, Option, Some, None, option_map, map, length}, List.{filter, list_any}}
use Rattle.dcsctp_tlv.specs.{Frame.{round_up_to_4, header}, Number.{number16}}
use Rattle.dcsctp_buffer.specs.{Buffer.{IsBegun, IsAdded, with_chunk}, Item.{IsLastChunk, IsItemAdded, extended}}
use Rattle.dcsctp_wire.specs.{Chunk.{ChunkTree, Unknown}, Packet.{Meaning}}
use Rattle.dcsctp_borrowed.specs.{Grammar.{whole}, Part.{Item}}
use Rattle.dcsctp_receive.specs.{Action.{action_to_chunk, action_to_parameter, skips, reports}, Chunks.{items_of, chunks_of}}
use Rattle.dcsctp_receive.specs.declared.action.Action.{Action}

-- ---- one of them

-- the type of a parameter, the first two bytes (section 3.2.1)
abbrev pub type_of : Item → ℕ
type_of p = number16 (p.first ∷ p.second ∷ [])

-- "The highest-order 2 bits specify the action that is taken if the processing endpoint does not
-- recognize the Chunk Type"; none is taken where the type is a known one.
abbrev pub chunk_action : List ℕ → Item → Option Action
chunk_action known c =
    if list_any (λ typ. typ == c.first) known then None else Some (action_to_chunk c.first)

-- the same of a parameter
abbrev pub parameter_action : List ℕ → Item → Option Action
parameter_action known p =
    if list_any (λ typ. typ == type_of p) known then None else
    Some (action_to_parameter (type_of p))

abbrev pub is_reported : Option Action → Bool
is_reported (Some a) = reports a
is_reported None = false

abbrev pub stops : Option Action → Bool
stops (Some a) = not (skips a)
stops None = false

-- ---- a list of them

-- Up to the first at which processing stops, and with it: "discard the unrecognized chunk and all
-- further chunks", "do not process any further parameters within this chunk".
abbrev pub looked_at : (Item → Option Action) → List Item → List Item
looked_at action [] = []
looked_at action (i ∷ is) = i ∷ (if stops (action i) then [] else looked_at action is)

-- those that are reported, in their order
abbrev pub reported : (Item → Option Action) → List Item → List Item
reported action items = filter (λ i. is_reported (action i)) (looked_at action items)

-- the bytes of an item with its padding
abbrev pub padded_size : Item → ℕ
padded_size i = round_up_to_4 (4 + i.value.size)

-- The offset, from the front of the list, of the first at which processing stops.
abbrev pub stop_offset : (Item → Option Action) → List Item → Option ℕ
stop_offset action [] = None
stop_offset action (i ∷ is) =
    if stops (action i) then Some 0 else
    option_map (λ offset. padded_size i + offset) (stop_offset action is)

-- ---- how they are reported

-- "complete with Parameter Type, Length, and Value fields" (section 3.3.3.1.2), "complete with
-- Chunk Type, Chunk Flags, and Chunk Length" (section 3.3.10.6): as it came, without its padding
abbrev pub whole_item : Item → List ℕ
whole_item i = header i.first i.second i.value.size ++ i.value.bytes

abbrev pub wholes : (Item → Option Action) → List Item → List (List ℕ)
wholes action items = map whole_item (reported action items)

-- ---- items that are added to a chunk

-- the bytes that parameters or causes with these values take, each with its header and its padding
abbrev pub added_size : List (List ℕ) → ℕ
added_size [] = 0
added_size (value ∷ values) = round_up_to_4 (4 + length value) + added_size values

-- The packet has room for all of them, in its last chunk.
pub record HasRoomForAll (buffer : List ℕ) (size start : ℕ) (values : List (List ℕ)) : Type 0 where
  pub place : IsLastChunk buffer size start
  pub within : size + added_size values ≤ length buffer
  pub whole : size + added_size values ≤ 65532

-- An item of this type is added for each value, one after the other, to the chunk that begins at
-- `start`.
abbrev pub AreAdded : ℕ → ℕ → List (List ℕ) → List ℕ → ℕ → List ℕ → ℕ → Type 0
AreAdded typ start [] old size new end = (new ≡ old) × (end ≡ size)
AreAdded typ start (value ∷ values) old size new end =
    (between : List ℕ) × ((middle : ℕ)
    × (IsItemAdded typ value old size start between middle
    × AreAdded typ start values between middle new end))

-- the chunk with all of them at its end
abbrev pub extended_by : ChunkTree → ℕ → List (List ℕ) → ChunkTree
extended_by t typ [] = t
extended_by t typ (value ∷ values) = extended_by (extended t typ value) typ values

-- ---- an ERROR with all of them (section 3.3.10)

abbrev pub empty_error : ChunkTree
empty_error = Unknown (record { typ = 9; flags = 0; value = [] })

-- the bytes that it takes with these causes; none, where there is no cause
abbrev pub error_size : List (List ℕ) → ℕ
error_size [] = 0
error_size (value ∷ values) = 4 + added_size (value ∷ values)

-- The packet has room for it.
pub record HasErrorRoom (room size : ℕ) (values : List (List ℕ)) : Type 0 where
  pub begun : IsBegun room size
  pub within : size + error_size values ≤ room
  pub whole : size + error_size values ≤ 65532

-- The packet has room for an ERROR, and for these causes.
pub record HasSomeRoom (room size : ℕ) (values : List (List ℕ)) : Type 0 where
  pub begun : IsBegun room size
  pub within : size + (4 + added_size values) ≤ room
  pub whole : size + (4 + added_size values) ≤ 65532

-- An ERROR is added, and a cause of this code to it for each value.
abbrev pub IsSomeErrorAdded : ℕ → List (List ℕ) → List ℕ → ℕ → List ℕ → ℕ → Type 0
IsSomeErrorAdded code values old size new end =
    (between : List ℕ) × ((middle : ℕ)
    × (IsAdded empty_error old size between middle
    × AreAdded code size values between middle new end))

-- nothing, where there is no value
abbrev pub IsErrorAdded : ℕ → List (List ℕ) → List ℕ → ℕ → List ℕ → ℕ → Type 0
IsErrorAdded code [] old size new end = (new ≡ old) × (end ≡ size)
IsErrorAdded code (value ∷ values) old size new end =
    IsSomeErrorAdded code (value ∷ values) old size new end

-- the packet with it, the last chunk
abbrev pub with_error : Meaning → ℕ → List (List ℕ) → Meaning
with_error m code [] = m
with_error m code (value ∷ values) =
    with_chunk m (extended_by empty_error code (value ∷ values))

-- ---- of the bytes that came

-- the parameters that are reported, as they came
abbrev pub unrecognized_parameters : List ℕ → List ℕ → List (List ℕ)
unrecognized_parameters known list = wholes (parameter_action known) (items_of (whole list))

abbrev pub unrecognized_chunks : List ℕ → List ℕ → List (List ℕ)
unrecognized_chunks known packet = wholes (chunk_action known) (chunks_of packet)

-- the offset of the parameter in its list at which processing stops, and of the chunk in its packet
abbrev pub parameter_stop : List ℕ → List ℕ → Option ℕ
parameter_stop known list = stop_offset (parameter_action known) (items_of (whole list))

abbrev pub chunk_stop : List ℕ → List ℕ → Option ℕ
chunk_stop known packet =
    option_map (λ offset. 12 + offset) (stop_offset (chunk_action known) (chunks_of packet))
