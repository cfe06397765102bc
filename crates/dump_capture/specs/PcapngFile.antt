-- The pcapng file that is written of frames (draft-ietf-opsawg-pcapng): numbers with the least
-- significant byte first, times in nanoseconds.
use Rattle.std.specs.Prelude.{◌≡◌, ◌+◌, ◌-◌, ◌*◌, ◌/◌, ◌%◌, ◌^◌, ◌≤◌, ◌<◌, ℕ, pos, Bool, true, false, min, List, [], ◌∷◌, ◌++◌, Option, None, Some, length, take, drop, replicate, slice_get}
use Rattle.std.specs.List.{flat_map}
use Rattle.std.specs.Int.{w32, to_le_bytes}
use Rattle.dump_capture.specs.Number.{number_in, one_more}
use Rattle.dump_capture.specs.Pcapng.{option_in}
use Rattle.dump_capture.specs.Event.{Event, Saw}
use Rattle.dump_capture.specs.declared.event.Part.TheVariants as part
use Rattle.dump_capture.specs.declared.event.Time.TheVariants.{Ticks}
use Rattle.dump_capture.specs.declared.line.Direction.{Direction}
use Rattle.dump_capture.specs.declared.line.Direction.TheVariants.{Incoming, Outgoing}
use Rattle.dump_capture.specs.declared.pcap.ByteOrder.{ByteOrder}
use Rattle.dump_capture.specs.declared.pcapng_writer.PcapngFrame.{PcapngFrame}
use Rattle.dump_capture.specs.declared.pcapng_writer.PcapngWriter.{PcapngWriter}

-- a frame that is written: its time is nanoseconds since 1970
pub record Frame : Type 0 where
  pub link_type : ℕ
  pub original_length : ℕ
  pub time : ℕ
  pub direction : Option Direction
  pub bytes : List ℕ

-- ---- blocks

-- numbers of four bytes
abbrev pub words : List ℕ → List ℕ
words numbers = flat_map (to_le_bytes w32) numbers

-- a block (3.1): its type, its total length, its body, and its total length again
abbrev pub block : ℕ → List ℕ → List ℕ
block type body =
    words (type ∷ (12 + length body) ∷ []) ++ (body ++ words ((12 + length body) ∷ []))

-- a section header (4.1): its magic, version 1.0, and -1 for a length that isn't known
abbrev pub section_block : List ℕ
section_block =
    block 0x0a0d0d0a (words (0x1a2b3c4d ∷ 1 ∷ 0xffffffff ∷ 0xffffffff ∷ []))

-- an interface description (4.2): the link type, no snapshot length, and the options if_tsresol
-- (code 9, of one byte: 9, for nanoseconds) and opt_endofopt
abbrev pub interface_block : ℕ → List ℕ
interface_block link = block 1 (words (link ∷ 0 ∷ 0x00010009 ∷ 9 ∷ 0 ∷ []))

-- with zeros up to a multiple of 4 bytes
abbrev pub padded : List ℕ → List ℕ
padded bytes = bytes ++ replicate ((4 - length bytes % 4) % 4) 0

-- the options epb_flags (code 2, of four bytes: 1 inbound, 2 outbound) and opt_endofopt (4.3)
abbrev pub direction_options : Option Direction → List ℕ
direction_options None = []
direction_options (Some Incoming) = 0x00040002 ∷ 1 ∷ 0 ∷ []
direction_options (Some Outgoing) = 0x00040002 ∷ 2 ∷ 0 ∷ []

-- an enhanced packet (4.3): its interface, both halves of its time, both lengths, its bytes, and
-- its options
abbrev pub packet_body : ℕ → Frame → List ℕ
packet_body interface f =
    words (interface ∷ (f.time / 2 ^ 32) ∷ (f.time % 2 ^ 32) ∷ length f.bytes
    ∷ f.original_length ∷ []) ++ (padded f.bytes ++ words (direction_options f.direction))

abbrev pub packet_block : ℕ → Frame → List ℕ
packet_block interface f = block 6 (packet_body interface f)

-- ---- a file

-- its numbers fit their fields, and its block isn't longer than is read
pub record Fits (f : Frame) : Type 0 where
  pub time : f.time < 2 ^ 64
  pub original : f.original_length < 2 ^ 32
  pub captured : length f.bytes ≤ 262112

-- Bytes are a file of these frames, in order, and its last section has interfaces of these link
-- types, numbered from 0; there is no section before the first one.
pub data IsFile : List ℕ → List Frame → Option (List ℕ) → Type 0 where
  nothing : (bytes : List ℕ) (frames : List Frame) → bytes ≡ [] → frames ≡ []
      → IsFile bytes frames None
  section : (bytes front : List ℕ) (frames : List Frame) (before : Option (List ℕ))
      → IsFile front frames before → bytes ≡ front ++ section_block
      → IsFile bytes frames (Some [])
  interface : (bytes front links : List ℕ) (frames : List Frame) (link : ℕ)
      → IsFile front frames (Some links) → length links < 1024 → link < 2 ^ 16
      → bytes ≡ front ++ interface_block link
      → IsFile bytes frames (Some (links ++ link ∷ []))
  packet : (bytes front links : List ℕ) (frames first : List Frame) (f : Frame)
      (interface : ℕ)
      → IsFile front first (Some links) → slice_get links interface ≡ Some f.link_type
      → interface < 2 ^ 32 → Fits f → bytes ≡ front ++ packet_block interface f
      → frames ≡ first ++ f ∷ [] → IsFile bytes frames (Some links)

-- ---- what is read of it

-- a frame, as it is read: its bytes, its link type, its original length and its nanoseconds
abbrev pub frame_seen : ℕ → Frame → Event
frame_seen number f = Saw (record {
  number = number;
  time = Ticks f.time 9 (pos 0);
  part = part.Record;
  place = number;
}) f.link_type f.original_length f.bytes

-- frames, the first of which has this number
abbrev pub frames_seen : ℕ → List Frame → List Event
frames_seen number [] = []
frames_seen number (f ∷ frames) = frame_seen number f ∷ frames_seen (one_more number) frames

-- The value of epb_flags in an enhanced packet's body: of the first such option after the frame and
-- the zeros up to a multiple of 4 bytes (4.3). Empty if there is none.
abbrev pub flags_in : ByteOrder → List ℕ → List ℕ
flags_in order body =
    option_in (length body) order 2 4
    (drop (20 + (number_in order w32 (drop 12 body) + 3) / 4 * 4) body)

-- the flags that say a direction: 1 inbound, 2 outbound
abbrev pub flags_of : Option Direction → List ℕ
flags_of None = []
flags_of (Some Incoming) = 1 ∷ 0 ∷ 0 ∷ 0 ∷ []
flags_of (Some Outgoing) = 2 ∷ 0 ∷ 0 ∷ 0 ∷ []

-- ---- the writer

abbrev pub links_of : Bool → List ℕ → Option (List ℕ)
links_of false links = None
links_of true links = Some links

-- the link types of the section's interfaces, where one was begun
abbrev pub links : PcapngWriter → Option (List ℕ)
links w = links_of w.is_begun w.link_types.items

abbrev pub IsBegun : PcapngWriter → Type 0
IsBegun w = w.is_begun ≡ true

abbrev pub frame_of : PcapngFrame → Frame
frame_of f = record {
  link_type = f.link_type;
  original_length = f.original_length;
  time = f.time;
  direction = f.direction;
  bytes = f.bytes.now;
}

-- what is written of a frame: its bytes up to its original length, and as many as are read
abbrev pub kept : Frame → Frame
kept f = record f { bytes = take (min f.original_length 262112) f.bytes }

-- Where the bytes that were written before and those that wait are a file, they are one still, with
-- these frames after the others.
abbrev pub Adds : PcapngWriter → PcapngWriter → List Frame → Type 0
Adds old new added =
    (before : List ℕ) (frames : List Frame) → IsFile (before ++ old.bytes.items) frames (links old)
    → IsFile (before ++ new.bytes.items) (frames ++ added) (links new)
