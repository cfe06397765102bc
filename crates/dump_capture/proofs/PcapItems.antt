-- The items of a pcap file, by the bytes in memory.
use Rattle.std.proofs.Common.{◌≡◌, ◌+◌, ◌≤◌, ◌<◌, ◌==◌, ◌&&◌, ℕ, true, false, if◌then◌else◌, List, [], ◌∷◌, ◌++◌, Option, None, Some, length, take, drop, nat_lt, nat_le, refl, sym, ap, ◌∙◌, take-append-drop, arith}
use Rattle.std.proofs.Math.Seq.{take-add}
use Rattle.std.proofs.lemmas.Bool.Decides.{nat_tests}
use Rattle.std.proofs.lemmas.List.{length-append, length-take, length-take-le, length-drop}
use Rattle.std.specs.Io.{StartsWith}
use Rattle.dump_capture.specs.Number.{one_more}
use Rattle.dump_capture.specs.Pcap.{Fits, file_header, record_header, record_bytes, record_of, captured_length}
use Rattle.dump_capture.specs.Frame.{is_known_link}
use Rattle.dump_capture.specs.Event.{Event, Skip}
use Rattle.dump_capture.specs.Decoding.{Passes}
use Rattle.dump_capture.specs.PcapEvents.{fault_by, header_fault, frame_event, record_event, cut_events, Item, End}
use Rattle.dump_capture.specs.declared.pcap.ByteOrder.{ByteOrder}
use Rattle.dump_capture.specs.declared.pcap.FileHeader.{FileHeader}
use Rattle.dump_capture.specs.declared.pcap.RecordHeader.{RecordHeader}
use Rattle.dump_capture.specs.declared.pcap_decoder.PcapDecoder.TheVariants as before
use Rattle.dump_capture.specs.declared.decoder.Extent.TheVariants as extent
use Rattle.dump_capture.specs.declared.decoder.Fault.TheVariants.{LinkType}
use Rattle.dump_capture.specs.declared.event.Part.TheVariants as part
use Rattle.dump_capture.specs.declared.event.Skipped.TheVariants.{TooLong, EndsIn}
use Rattle.dump_capture.proofs.Fronts.{begun_take, captured_begun, file_header_front, file_header_taken}

-- ---- the file header

fault_whole : (header : FileHeader) (bytes : List ℕ) → 24 ≤ length bytes
    → file_header bytes ≡ Some header
    → header_fault bytes
    ≡ (if is_known_link header.link_type then None else Some (LinkType header.link_type))
fault_whole header bytes size read =
    ap (λ (m : Option FileHeader). fault_by m (length bytes)) read
    ∙ (let enough : nat_lt (length bytes) 24 ≡ false = grind (arith, nat_tests) in rw enough refl)

pub fault_link : (header : FileHeader) (held rest : List ℕ) → 24 ≤ length held
    → file_header held ≡ Some header → is_known_link header.link_type ≡ false
    → header_fault (held ++ rest) ≡ Some (LinkType header.link_type)
fault_link header held rest size read other =
    fault_whole header (held ++ rest) (omega (arith, length-append held rest))
    (file_header_front held rest size ∙ read) ∙ rw other refl

pub fault_known : (header : FileHeader) (bytes : List ℕ) → 24 ≤ length bytes
    → file_header bytes ≡ Some header → is_known_link header.link_type ≡ true
    → header_fault bytes ≡ None
fault_known header bytes size read known = fault_whole header bytes size read ∙ rw known refl

pub fault_none : (header : FileHeader) (held : List ℕ) → 24 ≤ length held
    → file_header held ≡ Some header → is_known_link header.link_type ≡ true
    → header_fault (take 24 held) ≡ None
fault_none header held size read known =
    fault_known header (take 24 held) (omega (arith, length-take-le 24 held size))
    (file_header_taken held size ∙ read) known

-- ---- the records

-- this header is at the front
pub record HasHeader (order : ByteOrder) (h : RecordHeader) (held : List ℕ) : Type 0 where
  pub size : 16 ≤ length held
  pub value : h ≡ record_header order held
  pub begins : (frame : List ℕ) → length frame ≡ h.captured_length
      → record_bytes order (record_of h frame) ≡ take 16 held ++ frame
  pub fits : (frame : List ℕ) → length frame ≡ h.captured_length → Fits (record_of h frame)

captured_is : (order : ByteOrder) (h : RecordHeader) (held : List ℕ) → HasHeader order h held
    → h.captured_length ≡ captured_length order held
captured_is order h held has = ap (λ (x : RecordHeader). x.captured_length) has.value

-- a record whose frame is these bytes
pub Item-frame : (header : FileHeader) (number next : ℕ) (h : RecordHeader)
    (held bytes frame : List ℕ) (event : Event)
    → HasHeader header.format.order h held → length frame ≡ h.captured_length
    → bytes ≡ take 16 held ++ frame
    → event ≡ record_event header number (record_of h frame)
    → next ≡ one_more number
    → Item (before.Record header number) bytes (event ∷ []) (before.Record header next)
Item-frame header number next h held bytes frame event has captured split is more = (
  record_of h frame,
  has.fits frame captured,
  split ∙ sym (has.begins frame captured),
  ap (λ (e : Event). e ∷ []) is,
  ap (before.Record header) more,
)

-- a whole record is in memory
pub Item-held : (header : FileHeader) (number next size : ℕ) (h : RecordHeader)
    (held : List ℕ) (event : Event)
    → HasHeader header.format.order h held → size ≡ 16 + h.captured_length → size ≤ length held
    → event ≡ record_event header number (record_of h (take h.captured_length (drop 16 held)))
    → next ≡ one_more number
    → Item (before.Record header number) (take size held) (event ∷ []) (before.Record header next)
Item-held header number next size h held event has sized enough is more =
    Item-frame header number next h held (take size held) (take h.captured_length (drop 16 held))
    event has
    (omega (arith, length-take h.captured_length (drop 16 held), length-drop 16 held))
    (ap (λ (n : ℕ). take n held) sized ∙ take-add 16 h.captured_length held) is more

-- its frame is kept
pub Item-kept : (header : FileHeader) (number next size : ℕ) (h : RecordHeader)
    (held frame : List ℕ)
    → HasHeader header.format.order h held → size ≡ 16 + h.captured_length → size ≤ length held
    → h.captured_length ≤ 262144 → frame ≡ take h.captured_length (drop 16 held)
    → next ≡ one_more number
    → Item (before.Record header number) (take size held)
    (frame_event header number (record_of h frame) ∷ []) (before.Record header next)
Item-kept header number next size h held frame has sized enough kept is more =
    Item-held header number next size h held (frame_event header number (record_of h frame)) has
    sized enough kept_event more where
      kept_event : frame_event header number (record_of h frame)
          ≡ record_event header number (record_of h (take h.captured_length (drop 16 held)))
      kept_event =
          let within : nat_lt 262144 (length (take h.captured_length (drop 16 held))) ≡ false =
          grind (arith, nat_tests, length-take h.captured_length (drop 16 held)) in
          rw within (ap (λ (f : List ℕ). frame_event header number (record_of h f)) is)

too_long : (header : FileHeader) (number : ℕ) (h : RecordHeader) (frame : List ℕ)
    → length frame ≡ h.captured_length → 262144 < h.captured_length
    → Skip part.Record number TooLong ≡ record_event header number (record_of h frame)
too_long header number h frame captured long =
    let past : nat_lt 262144 (length frame) ≡ true = grind (arith, nat_tests) in rw past refl

-- its frame is too long
pub Item-long : (header : FileHeader) (number next size : ℕ) (h : RecordHeader) (held : List ℕ)
    → HasHeader header.format.order h held → size ≡ 16 + h.captured_length → size ≤ length held
    → 262144 < h.captured_length → next ≡ one_more number
    → Item (before.Record header number) (take size held) (Skip part.Record number TooLong ∷ [])
    (before.Record header next)
Item-long header number next size h held has sized enough long more =
    Item-held header number next size h held (Skip part.Record number TooLong) has sized enough
    (too_long header number h (take h.captured_length (drop 16 held))
    (omega (arith, length-take h.captured_length (drop 16 held), length-drop 16 held)) long) more

long_events : (number n captured : ℕ) → 16 ≤ n → 262144 < captured
    → Skip part.Record number TooLong ∷ []
    ≡ (if n == 0 then [] else Skip part.Record number
    (if nat_le 16 n && nat_lt 262144 captured then TooLong else EndsIn) ∷ [])
long_events number n captured size long =
    let some : (n == 0) ≡ false = grind (arith, nat_tests) in
    let header : nat_le 16 n ≡ true = grind (arith, nat_tests) in
    let past : nat_lt 262144 captured ≡ true = grind (arith, nat_tests) in
    rw (some, header, past) refl

-- and goes on after the bytes in memory
pub Passes-long : (header : FileHeader) (number next size : ℕ) (h : RecordHeader) (held : List ℕ)
    → HasHeader header.format.order h held → size ≡ 16 + h.captured_length → length held < size
    → 262144 < h.captured_length → next ≡ one_more number
    → Passes Item End (before.Record header number) held (extent.Bytes size)
    (Skip part.Record number TooLong ∷ []) (before.Record header next)
Passes-long header number next size h held has sized short long more = (
  short,
  λ bytes all starts. (let captured : length (drop 16 bytes) ≡ h.captured_length =
      omega (arith, length-drop 16 bytes) in
      Item-frame header number next h held bytes (drop 16 bytes) (Skip part.Record number TooLong)
      has captured
      (sym (take-append-drop 16 bytes)
      ∙ ap (λ (x : List ℕ). x ++ drop 16 bytes) (begun_take 16 bytes held starts has.size))
      (too_long header number h (drop 16 bytes) captured long) more),
  λ bytes cut starts. (
    λ begins. (let whole = begins.captured in let is = captured_of bytes starts in
        omega (arith, whole, is)),
    refl,
    cut_are bytes starts,
  ),
) where
  captured_of : (bytes : List ℕ) → StartsWith bytes held
      → captured_length header.format.order bytes ≡ h.captured_length
  captured_of bytes starts = captured_begun header.format.order bytes held starts has.size
      ∙ sym (captured_is header.format.order h held has)

  at_least : (bytes : List ℕ) → StartsWith bytes held → 16 ≤ length bytes
  at_least bytes starts = let size = has.size in
      omega (arith, ap length starts, length-take (length held) bytes)

  cut_are : (bytes : List ℕ) → StartsWith bytes held
      → Skip part.Record number TooLong ∷ [] ≡ cut_events header.format.order number bytes
  cut_are bytes starts = let is = captured_of bytes starts in
      long_events number (length bytes) (captured_length header.format.order bytes)
      (at_least bytes starts) (omega (arith, is))
