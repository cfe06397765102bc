-- The events of a pcap file: none of its header, then one of each record, in order.
use Rattle.std.specs.Prelude.{◌≡◌, ◌==◌, ◌&&◌, ℕ, if◌then◌else◌, List, [], ◌∷◌, Option, None, Some, IsSome, nat_lt, nat_le, length}
use Rattle.dump_capture.specs.Number.{one_more}
use Rattle.dump_capture.specs.Pcap.{Record, Fits, file_header, record_bytes, captured_length, BeginsWithRecord}
use Rattle.dump_capture.specs.Frame.{is_known_link}
use Rattle.dump_capture.specs.Event.{Event, Saw, Skip}
use Rattle.dump_capture.specs.declared.pcap.ByteOrder.{ByteOrder}
use Rattle.dump_capture.specs.declared.pcap.FileHeader.{FileHeader}
use Rattle.dump_capture.specs.declared.pcap_decoder.PcapDecoder.{PcapDecoder}
use Rattle.dump_capture.specs.declared.pcap_decoder.PcapDecoder.TheVariants as before
use Rattle.dump_capture.specs.declared.decoder.Fault.{Fault}
use Rattle.dump_capture.specs.declared.decoder.Fault.TheVariants.{NotCapture, ShortHeader, LinkType}
use Rattle.dump_capture.specs.declared.event.Part.TheVariants as part
use Rattle.dump_capture.specs.declared.event.Time.TheVariants.{Stamp}
use Rattle.dump_capture.specs.declared.event.Skipped.{Skipped}
use Rattle.dump_capture.specs.declared.event.Skipped.TheVariants.{TooLong, EndsIn}

-- ---- the file header

-- why bytes don't begin with the header of a file that is read: another magic, fewer than 24 bytes,
-- or a link type that isn't known
abbrev pub fault_by : Option FileHeader → ℕ → Option Fault
fault_by None size = Some NotCapture
fault_by (Some header) size =
    if nat_lt size 24 then Some ShortHeader else
    if is_known_link header.link_type then None else
    Some (LinkType header.link_type)

abbrev pub header_fault : List ℕ → Option Fault
header_fault bytes = fault_by (file_header bytes) (length bytes)

-- ---- the records

abbrev pub frame_event : FileHeader → ℕ → Record → Event
frame_event header number r = Saw (record {
  number = number;
  time = Stamp r.seconds r.fraction header.format.resolution;
  part = part.Record;
  place = number;
}) header.link_type r.original_length r.frame

-- a frame of more than 262,144 bytes isn't kept
abbrev pub record_event : FileHeader → ℕ → Record → Event
record_event header number r =
    if nat_lt 262144 (length r.frame) then Skip part.Record number TooLong else
    frame_event header number r

-- ---- the end of a file

-- why bytes are no whole record: their header says more than is kept, or they end too early
abbrev pub cut_reason : ByteOrder → List ℕ → Skipped
cut_reason order cut =
    if nat_le 16 (length cut) && nat_lt 262144 (captured_length order cut) then TooLong else EndsIn

abbrev pub cut_events : ByteOrder → ℕ → List ℕ → List Event
cut_events order number cut =
    if length cut == 0 then [] else Skip part.Record number (cut_reason order cut) ∷ []

-- one of each record, the first of which has this number, and one of what is cut off
abbrev pub events_from : FileHeader → ℕ → List Record → List ℕ → List Event
events_from header number [] cut = cut_events header.format.order number cut
events_from header number (r ∷ records) cut =
    record_event header number r ∷ events_from header (one_more number) records cut

-- ---- a file

-- the file header, or one record
abbrev pub Item : PcapDecoder → List ℕ → List Event → PcapDecoder → Type 0
Item before.FileHeader bytes events t =
    (length bytes ≡ 24) × (header_fault bytes ≡ None) × (events ≡ [])
    × ((header : FileHeader) × (file_header bytes ≡ Some header) × (t ≡ before.Record header 1))
Item (before.Record header number) bytes events t =
    (r : Record) × Fits r × (bytes ≡ record_bytes header.format.order r)
    × (events ≡ record_event header number r ∷ []) × (t ≡ before.Record header (one_more number))

-- no header of a file that is read, or less than one record
abbrev pub End : PcapDecoder → List ℕ → List Event → Option Fault → Type 0
End before.FileHeader bytes events fault =
    IsSome fault × (fault ≡ header_fault bytes) × (events ≡ [])
End (before.Record header number) bytes events fault =
    (BeginsWithRecord header.format.order bytes → ⊥) × (fault ≡ None)
    × (events ≡ cut_events header.format.order number bytes)
