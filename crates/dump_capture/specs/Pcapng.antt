-- Capture files in the pcapng format (draft-ietf-opsawg-pcapng): blocks one after the other, of
-- which a section header says the byte order up to the next one.
--
--   block (3.1): | type, 4 | total length, 4 | body .. | total length, 4 |
-- and the bodies:
--   section header (4.1): | 1a2b3c4d in the order, 4 | major, 2 | minor, 2 | length, 8 | .. |
--   interface description (4.2):
--     | link type, 2 | reserved, 2 | snapshot length, 4 | options .. |
--   enhanced packet (4.3):
--     | interface, 4 | time, high, 4 | low, 4 | captured, 4 | original length, 4 | frame .. |
--   packet, obsolete (appendix A): the same, but | interface, 2 | drops, 2 |
--   simple packet (4.4): | original length, 4 | frame .. |
--   option (3.5): | code, 2 | length, 2 | value, and zeros up to 4 bytes |
--
-- The second total length serves reading backwards, and isn't looked at.
use Rattle.std.specs.Prelude.{◌≡◌, ◌+◌, ◌-◌, ◌*◌, ◌/◌, ◌%◌, ◌≤◌, ◌==◌, ◌&&◌, ◌||◌, ℕ, zero, suc, ℤ, pos, Bool, nat_eq, nat_lt, nat_le, if◌then◌else◌, List, [], ◌∷◌, Option, None, Some, length, take, drop}
use Rattle.std.specs.List.{starts_with}
use Rattle.std.specs.Int.{w16, w32, w64, cast_signed}
use Rattle.dump_capture.specs.Number.{byte_at, number_in}
use Rattle.dump_capture.specs.Pcap.{section_header}
use Rattle.dump_capture.specs.declared.pcap.ByteOrder.{ByteOrder}
use Rattle.dump_capture.specs.declared.pcap.ByteOrder.TheVariants.{BigEndian, LittleEndian}
use Rattle.dump_capture.specs.declared.pcapng.BlockHeader.{BlockHeader}
use Rattle.dump_capture.specs.declared.pcapng.Interface.{Interface}

-- ---- a block

-- the order in which this is the magic of a section header
abbrev pub magic_order : List ℕ → Option ByteOrder
magic_order bytes =
    if starts_with nat_eq bytes (0x1a ∷ 0x2b ∷ 0x3c ∷ 0x4d ∷ []) then Some BigEndian else
    if starts_with nat_eq bytes (0x4d ∷ 0x3c ∷ 0x2b ∷ 0x1a ∷ []) then Some LittleEndian else
    None

-- the order of a block's numbers: a section header says its own, and that of all after it
abbrev pub block_order : Option ByteOrder → List ℕ → Option ByteOrder
block_order order bytes =
    if starts_with nat_eq bytes section_header then magic_order (drop 8 bytes) else order

abbrev pub total_length : ByteOrder → List ℕ → ℕ
total_length order bytes = number_in order w32 (drop 4 bytes)

-- a total length counts the type, both lengths and the body, in whole words
abbrev pub is_length : ℕ → Bool
is_length n = nat_le 12 n && n % 4 == 0

abbrev pub header_in : ByteOrder → List ℕ → Option BlockHeader
header_in order bytes =
    if is_length (total_length order bytes)
    then Some (record {
      order = order;
      block_type = number_in order w32 bytes;
      total_length = total_length order bytes;
    }) else
    None

abbrev pub header_by : Option ByteOrder → List ℕ → Option BlockHeader
header_by None bytes = None
header_by (Some order) bytes = header_in order bytes

-- the header at the front, of a section of this order; none where no section was begun, where its
-- magic is another, or where the total length can't be
abbrev pub block_header : Option ByteOrder → List ℕ → Option BlockHeader
block_header order bytes = header_by (block_order order bytes) bytes

-- a whole block is at the front, which has this header
pub record BeginsWithBlock (order : Option ByteOrder) (h : BlockHeader) (bytes : List ℕ) : Type 0
  where
    pub size : 12 ≤ length bytes
    pub header : block_header order bytes ≡ Some h
    pub whole : h.total_length ≤ length bytes

-- what is between the header and the second total length
abbrev pub body_of : BlockHeader → List ℕ → List ℕ
body_of h bytes = take (h.total_length - 12) (drop 8 bytes)

abbrev pub is_section : ℕ → Bool
is_section type = type == 0x0a0d0d0a

abbrev pub is_interface : ℕ → Bool
is_interface type = type == 1

-- an enhanced packet, a simple packet, or an obsolete one
abbrev pub is_packet : ℕ → Bool
is_packet type = type == 6 || type == 3 || type == 2

-- ---- interfaces

-- the size of an option with its padding
abbrev pub option_size : ℕ → ℕ
option_size length = 4 + (length + 3) / 4 * 4

-- a whole option of this code and size is at the front
abbrev pub is_option : ByteOrder → ℕ → ℕ → List ℕ → Bool
is_option order code size options =
    number_in order w16 options == code && number_in order w16 (drop 2 options) == size
    && nat_le (4 + size) (length options)

-- The value of the first option of this code and size, among the first n; empty if there is none.
-- Code 0 ends the options (opt_endofopt).
unfoldable pub option_in : ℕ → ByteOrder → ℕ → ℕ → List ℕ → List ℕ
option_in zero order code size options = []
option_in (suc n) order code size options =
    if nat_lt (length options) 4 || number_in order w16 options == 0 then [] else
    if is_option order code size options then take size (drop 4 options) else
    option_in n order code size
    (drop (option_size (number_in order w16 (drop 2 options))) options)

-- the unit of times (if_tsresol, code 9); 10^-6 if no option says it
abbrev pub resolution_of : List ℕ → ℕ
resolution_of value = if nat_lt (length value) 1 then 6 else byte_at 0 value

-- the seconds to be added to each time, a signed number (if_tsoffset, code 14); 0 if no option says
-- it
abbrev pub offset_of : ByteOrder → List ℕ → ℤ
offset_of order value =
    if nat_lt (length value) 8 then pos 0 else cast_signed w64 (number_in order w64 value)

-- what a body describes; nothing if it is too short, or longer than is kept
abbrev pub interface_of : ByteOrder → List ℕ → Option Interface
interface_of order body =
    if nat_lt (length body) 8 || nat_lt 262144 (length body) then None else
    Some (record {
      link_type = number_in order w16 body;
      snapshot_length = number_in order w32 (drop 4 body);
      resolution = resolution_of (option_in (length body) order 9 1 (drop 8 body));
      offset = offset_of order (option_in (length body) order 14 8 (drop 8 body));
    })
