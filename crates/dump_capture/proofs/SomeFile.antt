-- Files are read, whatever they hold.
use Rattle.std.proofs.Common.{◌≡◌, ◌+◌, ◌≤◌, ◌<◌, ◌==◌, ◌%◌, ◌&&◌, ◌⊎◌, inl, inr, ℕ, zero, suc, Bool, true, false, List, [], ◌++◌, Option, None, Some, length, get_or, take, drop, nat_le, nat_lt, refl, sym, ap, subst, ◌∙◌, take-append-drop, arith}
use Rattle.std.proofs.lemmas.Bool.{cases_lt}
use Rattle.std.proofs.lemmas.Bool.Decides.{nat_tests}
use Rattle.std.proofs.lemmas.List.{length-drop, length-take-le, get_or-drop}
use Rattle.dump_capture.specs.Pcapng.{total_length, is_length, header_by, block_order, block_header, BeginsWithBlock, body_of}
use Rattle.dump_capture.specs.Event.{Event}
use Rattle.dump_capture.specs.Decoding.{Reads}
use Rattle.dump_capture.specs.Pcap.{file_header}
use Rattle.dump_capture.specs.Frame.{is_known_link}
use Rattle.dump_capture.specs.PcapEvents as pcap
use Rattle.dump_capture.specs.PcapEvents.{fault_by, header_fault, events_from}
use Rattle.dump_capture.specs.declared.pcap.FileHeader.{FileHeader}
use Rattle.dump_capture.specs.declared.pcap_decoder.PcapDecoder.TheVariants as before
use Rattle.dump_capture.specs.PcapngEvents.{State, block_events, after_block, end_fault, end_events, Item, End}
use Rattle.dump_capture.specs.declared.pcap.ByteOrder.{ByteOrder}
use Rattle.dump_capture.specs.declared.pcapng.BlockHeader.{BlockHeader}
use Rattle.dump_capture.specs.declared.decoder.Fault.{Fault}
use Rattle.dump_capture.specs.declared.decoder.Fault.TheVariants.{LinkType}
use Rattle.dump_capture.proofs.Items.{Reads-cons, Reads-end}
use Rattle.dump_capture.proofs.Fronts.{file_header_taken}
use Rattle.dump_capture.proofs.Readings.{reading_some}
use Rattle.dump_capture.proofs.PcapReads.{pcap_events_are}
use Rattle.dump_capture.proofs.PcapngItems.{Item-held}

-- ---- pcap

fault_other : (h : FileHeader) (bytes : List ℕ) → file_header bytes ≡ Some h → 24 ≤ length bytes
    → is_known_link h.link_type ≡ false → header_fault bytes ≡ Some (LinkType h.link_type)
fault_other h bytes read size other =
    let enough : nat_lt (length bytes) 24 ≡ false = grind (arith, nat_tests) in
    ap (λ (x : Option FileHeader). fault_by x (length bytes)) read ∙ rw (enough, other) refl

pub some_pcap : (bytes : List ℕ) → ((k : ℕ) → get_or bytes k 0 < 256)
    → (events : List Event) × (fault : Option Fault)
    × Reads pcap.Item pcap.End before.FileHeader bytes events fault
some_pcap bytes fits = by_fault (header_fault bytes) refl where
  file : (h : FileHeader) → file_header bytes ≡ Some h → 24 ≤ length bytes
      → is_known_link h.link_type ≡ true
      → (events : List Event) × (fault : Option Fault)
      × Reads pcap.Item pcap.End before.FileHeader bytes events fault
  file h read size known =
      let r = reading_some h.format.order (drop 24 bytes)
      (λ k. rw (get_or-drop 24 bytes k 0) (fits (24 + k))) in
      let events = events_from h 1 r.0 r.1 in (
        events,
        None,
        subst (λ (b : List ℕ). Reads pcap.Item pcap.End before.FileHeader b events None)
            (take-append-drop 24 bytes)
            (pcap_events_are h (take 24 bytes) (drop 24 bytes) r.1 r.0
            (length-take-le 24 bytes size) (file_header_taken bytes size ∙ read) known r.2),
      )

  by_known : (h : FileHeader) → file_header bytes ≡ Some h → 24 ≤ length bytes → (known : Bool)
      → is_known_link h.link_type ≡ known → header_fault bytes ≡ None
      → (events : List Event) × (fault : Option Fault)
      × Reads pcap.Item pcap.End before.FileHeader bytes events fault
  by_known h read size true known is = file h read size known
  by_known h read size false other is =
      absurd (let whole = fault_other h bytes read size other in cc)

  by_header : (m : Option FileHeader) → file_header bytes ≡ m → header_fault bytes ≡ None
      → (length bytes < 24) ⊎ (24 ≤ length bytes)
      → (events : List Event) × (fault : Option Fault)
      × Reads pcap.Item pcap.End before.FileHeader bytes events fault
  by_header None read is size =
      absurd (let e = ap (λ (x : Option FileHeader). fault_by x (length bytes)) read in cc)
  by_header (Some h) read is (inl short) = absurd (
      let below : nat_lt (length bytes) 24 ≡ true = grind (arith, nat_tests) in
      let e = ap (λ (x : Option FileHeader). fault_by x (length bytes)) read in
      let f = rw below at e in cc)
  by_header (Some h) read is (inr size) =
      by_known h read size (is_known_link h.link_type) refl is

  by_fault : (m : Option Fault) → header_fault bytes ≡ m
      → (events : List Event) × (fault : Option Fault)
      × Reads pcap.Item pcap.End before.FileHeader bytes events fault
  by_fault (Some f) is = (
    [],
    Some f,
    Reads-end pcap.Item pcap.End before.FileHeader bytes [] (Some f) (refl, sym is, refl),
  )
  by_fault None is = by_header (file_header bytes) refl is (cases_lt (length bytes) 24)

-- ---- pcapng

record Reading (s : State) (bytes : List ℕ) : Type 0 where
  events : List Event
  fault : Option Fault
  are : Reads Item End s bytes events fault

ended : (s : State) (bytes : List ℕ)
    → ((h : BlockHeader) → BeginsWithBlock s.order h bytes → ⊥) → Reading s bytes
ended s bytes end = record {
  events = end_events s bytes;
  fault = end_fault s.order bytes;
  are = Reads-end Item End s bytes (end_events s bytes) (end_fault s.order bytes)
      (end, refl, refl);
}

length_least : (n : ℕ) → is_length n ≡ true → 12 ≤ n
length_least n is = by_test (nat_le 12 n) (n % 4 == 0) refl is where
  by_test : (a b : Bool) → nat_le 12 n ≡ a → (a && b) ≡ true → 12 ≤ n
  by_test true b test both = grind (arith, nat_tests)
  by_test false b test both = cc

at_least : (order : Option ByteOrder) (bytes : List ℕ) (h : BlockHeader)
    → header_by order bytes ≡ Some h → 12 ≤ h.total_length
at_least None bytes h is = absurd (cc)
at_least (Some order) bytes h is = by_test (is_length (total_length order bytes)) refl where
  by_test : (b : Bool) → is_length (total_length order bytes) ≡ b → 12 ≤ h.total_length
  by_test true test =
      let has = rw test at is in
      let same : total_length order bytes ≡ h.total_length = cc in
      omega (arith, length_least (total_length order bytes) test)
  by_test false test = absurd (let has = rw test at is in cc)

blocks : (n : ℕ) (s : State) (bytes : List ℕ) → length bytes < n → Reading s bytes
blocks zero s bytes size = absurd (omega arith)
blocks (suc n) s bytes size =
    by_size (λ t rest less. blocks n t rest less) (cases_lt (length bytes) 12) where
      by_whole : ((t : State) (rest : List ℕ) → length rest < n → Reading t rest)
          → (h : BlockHeader) → 12 ≤ length bytes → block_header s.order bytes ≡ Some h
          → (length bytes < h.total_length) ⊎ (h.total_length ≤ length bytes) → Reading s bytes
      by_whole again h long is (inl cut) = ended s bytes (λ other begins. (
          let some = begins.header in
          let whole = begins.whole in
          let equal : other ≡ h = cc in
          omega (arith, whole, ap (λ (x : BlockHeader). x.total_length) equal)))
      by_whole again h long is (inr whole) =
          let least = at_least (block_order s.order bytes) bytes h is in
          let t = after_block s h (body_of h bytes) in
          let past = drop h.total_length bytes in
          let own = block_events s.interfaces s.number h (body_of h bytes) in
          let rest = again t past (omega (arith, length-drop h.total_length bytes)) in record {
            events = own ++ rest.events;
            fault = rest.fault;
            are = subst (λ (b : List ℕ). Reads Item End s b (own ++ rest.events) rest.fault)
                (take-append-drop h.total_length bytes)
                (Reads-cons Item End s t (take h.total_length bytes) past own rest.events
                rest.fault (Item-held s t h bytes long least is whole refl) rest.are);
          }

      by_header : ((t : State) (rest : List ℕ) → length rest < n → Reading t rest)
          → 12 ≤ length bytes → (found : Option BlockHeader)
          → block_header s.order bytes ≡ found → Reading s bytes
      by_header again long None is =
          ended s bytes (λ h begins. (let some = begins.header in cc))
      by_header again long (Some h) is =
          by_whole again h long is (cases_lt (length bytes) h.total_length)

      by_size : ((t : State) (rest : List ℕ) → length rest < n → Reading t rest)
          → (length bytes < 12) ⊎ (12 ≤ length bytes) → Reading s bytes
      by_size again (inl short) =
          ended s bytes (λ h begins. (let some = begins.size in omega arith))
      by_size again (inr long) = by_header again long (block_header s.order bytes) refl

pub some_blocks : (s : State) (bytes : List ℕ)
    → (events : List Event) × (fault : Option Fault) × Reads Item End s bytes events fault
some_blocks s bytes =
    let r = blocks (length bytes + 1) s bytes (omega arith) in (r.events, r.fault, r.are)
