-- Capture files in the pcap format (draft-ietf-opsawg-pcap): a file header, then records one after
-- the other. What the first bytes of an input say of its format.
--
--   file header, 24 bytes:
--   | magic, 4 | major, 2 | minor, 2 | reserved, 8 | snapshot length, 4 | link type, 4 |
--   record, 16 bytes and the captured bytes:
--   | seconds, 4 | fraction, 4 | captured length, 4 | original length, 4 | captured bytes .. |
use Rattle.std.specs.Prelude.{◌≡◌, ◌<◌, ◌≤◌, ◌+◌, ◌%◌, ◌^◌, ℕ, List, [], ◌∷◌, ◌++◌, if◌then◌else◌, Option, Some, None, option_map, nat_eq, length, drop}
use Rattle.std.specs.List.{starts_with, flat_map, AllByRecursion}
use Rattle.std.specs.Int.{w16, w32}
use Rattle.dump_capture.specs.Number.{number_in, number_bytes}
use Rattle.dump_capture.specs.declared.pcap.ByteOrder.{ByteOrder}
use Rattle.dump_capture.specs.declared.pcap.ByteOrder.TheVariants.{BigEndian, LittleEndian}
use Rattle.dump_capture.specs.declared.pcap.Resolution.{Resolution}
use Rattle.dump_capture.specs.declared.pcap.Resolution.TheVariants.{Microseconds, Nanoseconds}
use Rattle.dump_capture.specs.declared.pcap.PcapFormat.{PcapFormat}
use Rattle.dump_capture.specs.declared.pcap.InputKind.{InputKind}
use Rattle.dump_capture.specs.declared.pcap.InputKind.TheVariants.{Pcap, Pcapng, Text}
use Rattle.dump_capture.specs.declared.pcap.FileHeader.{FileHeader}
use Rattle.dump_capture.specs.declared.pcap.RecordHeader.{RecordHeader}

-- ---- the first bytes

abbrev pub format : ByteOrder → Resolution → PcapFormat
format order resolution = record { order = order; resolution = resolution }

-- the format whose magic is at the front: a1b2c3d4 or a1b23c4d, a number in the file's byte order
abbrev pub magic_format : List ℕ → Option PcapFormat
magic_format bytes =
    if starts_with nat_eq bytes (0xa1 ∷ 0xb2 ∷ 0xc3 ∷ 0xd4 ∷ [])
    then Some (format BigEndian Microseconds) else
    if starts_with nat_eq bytes (0xd4 ∷ 0xc3 ∷ 0xb2 ∷ 0xa1 ∷ [])
    then Some (format LittleEndian Microseconds) else
    if starts_with nat_eq bytes (0xa1 ∷ 0xb2 ∷ 0x3c ∷ 0x4d ∷ [])
    then Some (format BigEndian Nanoseconds) else
    if starts_with nat_eq bytes (0x4d ∷ 0x3c ∷ 0xb2 ∷ 0xa1 ∷ [])
    then Some (format LittleEndian Nanoseconds) else
    None

-- what pcapng begins with (draft-ietf-opsawg-pcapng section 4.1), the same in both byte orders
abbrev pub section_header : List ℕ
section_header = 0x0a ∷ 0x0d ∷ 0x0d ∷ 0x0a ∷ []

abbrev pub kind_without_magic : List ℕ → InputKind
kind_without_magic bytes =
    if starts_with nat_eq bytes section_header then Pcapng else Text

-- which kind of input begins with these bytes
abbrev pub input_kind_by : Option PcapFormat → List ℕ → InputKind
input_kind_by (Some f) bytes = Pcap f
input_kind_by None bytes = kind_without_magic bytes

abbrev pub input_kind : List ℕ → InputKind
input_kind bytes = input_kind_by (magic_format bytes) bytes

-- ---- the file header

-- the fields after the magic; of the last number the low 16 bits are the link type, and the others
-- say whether frames end with a check sequence
abbrev pub header_of : List ℕ → PcapFormat → FileHeader
header_of bytes f = record {
  format = f;
  major_version = number_in f.order w16 (drop 4 bytes);
  minor_version = number_in f.order w16 (drop 6 bytes);
  snapshot_length = number_in f.order w32 (drop 16 bytes);
  link_type = number_in f.order w32 (drop 20 bytes) % 2 ^ 16;
}

-- the header at the front, unless the magic is another
abbrev pub file_header : List ℕ → Option FileHeader
file_header bytes = option_map (header_of bytes) (magic_format bytes)

-- ---- the records

pub record Record : Type 0 where
  pub seconds : ℕ
  pub fraction : ℕ
  pub original_length : ℕ
  pub frame : List ℕ

-- its numbers fit their fields
pub record Fits (r : Record) : Type 0 where
  pub seconds : r.seconds < 2 ^ 32
  pub fraction : r.fraction < 2 ^ 32
  pub captured : length r.frame < 2 ^ 32
  pub original : r.original_length < 2 ^ 32

-- a record as a file holds it
abbrev pub record_bytes : ByteOrder → Record → List ℕ
record_bytes order r =
    (number_bytes order w32 r.seconds ++ (number_bytes order w32 r.fraction
    ++ (number_bytes order w32 (length r.frame) ++ number_bytes order w32 r.original_length)))
    ++ r.frame

-- the captured length that the header at the front says
abbrev pub captured_length : ByteOrder → List ℕ → ℕ
captured_length order bytes = number_in order w32 (drop 8 bytes)

-- a whole record is at the front
pub record BeginsWithRecord (order : ByteOrder) (bytes : List ℕ) : Type 0 where
  pub header : 16 ≤ length bytes
  pub captured : 16 + captured_length order bytes ≤ length bytes

-- The bytes after a file header are these records, one after the other, and then less than a whole
-- record: nothing, or one that was cut off.
pub record AreRecords (order : ByteOrder) (bytes : List ℕ) (records : List Record) (cut : List ℕ)
    : Type 0 where
  pub split : bytes ≡ flat_map (record_bytes order) records ++ cut
  pub fit : AllByRecursion Fits records
  pub end : BeginsWithRecord order cut → ⊥

-- the numbers of the header at the front
abbrev pub record_header : ByteOrder → List ℕ → RecordHeader
record_header order bytes = record {
  seconds = number_in order w32 bytes;
  fraction = number_in order w32 (drop 4 bytes);
  captured_length = captured_length order bytes;
  original_length = number_in order w32 (drop 12 bytes);
}

-- the record of a header and its captured bytes
abbrev pub record_of : RecordHeader → List ℕ → Record
record_of header frame = record {
  seconds = header.seconds;
  fraction = header.fraction;
  original_length = header.original_length;
  frame = frame;
}
