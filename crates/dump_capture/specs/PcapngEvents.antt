-- The events of a pcapng file: one of each packet block, numbered from 1 over all sections.
use Rattle.std.specs.Prelude.{◌≡◌, ◌+◌, ◌-◌, ◌*◌, ◌^◌, ◌==◌, ◌&&◌, ℕ, Bool, not, min, nat_eq, nat_lt, if◌then◌else◌, List, [], ◌∷◌, ◌++◌, Option, None, Some, is_none, length, take, drop, slice_get}
use Rattle.std.specs.List.{starts_with}
use Rattle.std.specs.Int.{w16, w32}
use Rattle.dump_capture.specs.Number.{number_in, one_more}
use Rattle.dump_capture.specs.Pcap.{section_header}
use Rattle.dump_capture.specs.Pcapng.{block_header, BeginsWithBlock, body_of, is_section, is_interface, is_packet, interface_of}
use Rattle.dump_capture.specs.Event.{Event, Saw, Skip}
use Rattle.dump_capture.specs.declared.pcap.ByteOrder.{ByteOrder}
use Rattle.dump_capture.specs.declared.pcapng.BlockHeader.{BlockHeader}
use Rattle.dump_capture.specs.declared.pcapng.Interface.{Interface}
use Rattle.dump_capture.specs.declared.decoder.Fault.{Fault}
use Rattle.dump_capture.specs.declared.decoder.Fault.TheVariants.{NotCapture, Block}
use Rattle.dump_capture.specs.declared.event.Part.TheVariants as part
use Rattle.dump_capture.specs.declared.event.Time.{Time}
use Rattle.dump_capture.specs.declared.event.Time.TheVariants.{Unknown, Ticks}
use Rattle.dump_capture.specs.declared.event.Skipped.TheVariants.{Malformed, TooLong, NoInterface, EndsIn}

-- What is known of the blocks before: the order of the section, if one was begun, its first 1,024
-- interfaces, of which some can't be read, and the number of the next packet.
pub record State : Type 0 where
  pub order : Option ByteOrder
  pub interfaces : List (Option Interface)
  pub number : ℕ

abbrev pub before_blocks : State
before_blocks = record { order = None; interfaces = []; number = 1 }

-- ---- packets

abbrev pub frame_event : ℕ → Time → Interface → ℕ → List ℕ → Event
frame_event number time i original frame = Saw (record {
  number = number;
  time = time;
  part = part.Record;
  place = number;
}) i.link_type original frame

-- the interface of this number
abbrev pub interface_at : List (Option Interface) → ℕ → Option Interface
interface_at interfaces n = known (slice_get interfaces n) where
  known : Option (Option Interface) → Option Interface
  known None = None
  known (Some i) = i

-- units since 1970, and the seconds to be added to them: the interface says which
abbrev pub ticks_in : ByteOrder → List ℕ → Interface → Time
ticks_in order body i =
    Ticks (number_in order w32 (drop 4 body) * 2 ^ 32 + number_in order w32 (drop 8 body))
    i.resolution i.offset

abbrev pub captured_event : ℕ → ByteOrder → List ℕ → Option Interface → Event
captured_event number order body None = Skip part.Record number NoInterface
captured_event number order body (Some i) =
    frame_event number (ticks_in order body i) i (number_in order w32 (drop 16 body))
    (take (number_in order w32 (drop 12 body)) (drop 20 body))

-- an enhanced packet, or an obsolete one, of this interface
abbrev pub packet_event : ℕ → ByteOrder → List ℕ → Option Interface → Event
packet_event number order body interface =
    if nat_lt (length body) 20 then Skip part.Record number Malformed else
    if nat_lt (length (drop 20 body)) (number_in order w32 (drop 12 body))
    then Skip part.Record number Malformed else
    captured_event number order body interface

-- of a simple packet as many bytes are captured as the first interface's snapshot length, if it has
-- one, lets through
abbrev pub simple_size : Interface → ℕ → ℕ
simple_size i original =
    if i.snapshot_length == 0 then original else min original i.snapshot_length

abbrev pub sized_event : ℕ → Interface → ℕ → List ℕ → ℕ → Event
sized_event number i original bytes size =
    if nat_lt (length bytes) size then Skip part.Record number Malformed else
    frame_event number Unknown i original (take size bytes)

abbrev pub simple_event_of : ℕ → ℕ → List ℕ → Option Interface → Event
simple_event_of number original bytes None = Skip part.Record number NoInterface
simple_event_of number original bytes (Some i) =
    sized_event number i original bytes (simple_size i original)

abbrev pub simple_event : ℕ → ByteOrder → List ℕ → Option Interface → Event
simple_event number order body interface =
    if nat_lt (length body) 4 then Skip part.Record number Malformed else
    simple_event_of number (number_in order w32 body) (drop 4 body) interface

-- ---- blocks

abbrev pub kept_event : List (Option Interface) → ℕ → BlockHeader → List ℕ → Event
kept_event interfaces number h body =
    if h.block_type == 6
    then packet_event number h.order body
    (interface_at interfaces (number_in h.order w32 body)) else
    if h.block_type == 3 then simple_event number h.order body (interface_at interfaces 0) else
    packet_event number h.order body (interface_at interfaces (number_in h.order w16 body))

-- of a block whose body is longer than is kept
abbrev pub long_events : ℕ → List Event
long_events number = Skip part.Record number TooLong ∷ []

abbrev pub block_events : List (Option Interface) → ℕ → BlockHeader → List ℕ → List Event
block_events interfaces number h body =
    if nat_lt 262144 (length body) then long_events number else
    if is_packet h.block_type then kept_event interfaces number h body ∷ [] else
    []

abbrev pub with_interface : List (Option Interface) → Option Interface → List (Option Interface)
with_interface interfaces i =
    if nat_lt (length interfaces) 1024 then interfaces ++ i ∷ [] else interfaces

abbrev pub after_block : State → BlockHeader → List ℕ → State
after_block s h body =
    if is_section h.block_type
    then record { order = Some h.order; interfaces = []; number = s.number } else
    if is_interface h.block_type
    then record {
      order = s.order;
      interfaces = with_interface s.interfaces (interface_of h.order body);
      number = s.number;
    } else
    if is_packet h.block_type
    then record { order = s.order; interfaces = s.interfaces; number = one_more s.number } else
    s

-- ---- a file

-- one block
abbrev pub Item : State → List ℕ → List Event → State → Type 0
Item s bytes events t =
    (h : BlockHeader) × BeginsWithBlock s.order h bytes × (length bytes ≡ h.total_length)
    × (events ≡ block_events s.interfaces s.number h (body_of h bytes))
    × (t ≡ after_block s h (body_of h bytes))

-- at the front there is something else than a section header
abbrev pub begins_otherwise : Option ByteOrder → List ℕ → Bool
begins_otherwise order bytes = is_none order && not (starts_with nat_eq bytes section_header)

-- less than the block of this header; with no header nothing says where the next block is
abbrev pub fault_by : Option BlockHeader → Option Fault
fault_by None = Some Block
fault_by (Some h) = None

abbrev pub events_by : State → Option BlockHeader → List Event
events_by s None = []
events_by s (Some h) =
    if nat_lt 262144 (h.total_length - 12) then long_events s.number else
    Skip part.Record s.number EndsIn ∷ []

abbrev pub end_fault : Option ByteOrder → List ℕ → Option Fault
end_fault order bytes =
    if begins_otherwise order bytes then Some NotCapture else
    if nat_lt (length bytes) 12 then None else
    fault_by (block_header order bytes)

abbrev pub end_events : State → List ℕ → List Event
end_events s bytes =
    if begins_otherwise s.order bytes then [] else
    if length bytes == 0 then [] else
    if nat_lt (length bytes) 12 then Skip part.Record s.number EndsIn ∷ [] else
    events_by s (block_header s.order bytes)

-- less than one block, or no block
abbrev pub End : State → List ℕ → List Event → Option Fault → Type 0
End s bytes events fault =
    ((h : BlockHeader) → BeginsWithBlock s.order h bytes → ⊥)
    × (events ≡ end_events s bytes) × (fault ≡ end_fault s.order bytes)
