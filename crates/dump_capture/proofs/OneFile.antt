-- Files are read in one way.
use Rattle.std.proofs.Common.{◌≡◌, ◌≤◌, ℕ, List, [], ◌∷◌, ◌++◌, Option, None, Some, length, take, nat_lt, false, refl, sym, ap, ◌∙◌, arith}
use Rattle.std.proofs.lemmas.Bool.Decides.{nat_tests}
use Rattle.std.proofs.lemmas.List.{length-append, take_at}
use Rattle.dump_capture.specs.Pcap.{Record, file_header, record_bytes}
use Rattle.dump_capture.specs.Event.{Event}
use Rattle.dump_capture.specs.PcapEvents.{fault_by, header_fault, record_event, Item, End}
use Rattle.dump_capture.specs.Pcapng.{block_header, BeginsWithBlock, body_of}
use Rattle.dump_capture.specs.PcapngEvents as ng
use Rattle.dump_capture.specs.PcapngEvents.{State, block_events, after_block}
use Rattle.dump_capture.specs.declared.pcap.FileHeader.{FileHeader}
use Rattle.dump_capture.specs.declared.pcapng.BlockHeader.{BlockHeader}
use Rattle.dump_capture.specs.declared.pcap_decoder.PcapDecoder.{PcapDecoder}
use Rattle.dump_capture.specs.declared.pcap_decoder.PcapDecoder.TheVariants as before
use Rattle.dump_capture.specs.declared.decoder.Fault.{Fault}
use Rattle.dump_capture.proofs.Fronts.{file_header_front}
use Rattle.dump_capture.proofs.Records.{record_one, record_front}
use Rattle.dump_capture.proofs.PcapngItems.{block_front}
use Rattle.dump_capture.proofs.OneReading.{IsOne}

same_front : (x y a b : List ℕ) → length x ≡ length y → x ++ a ≡ y ++ b → x ≡ y
same_front x y a b size e =
    sym (take_at x a (length y) size) ∙ ap (take (length y)) e ∙ take_at y b (length y) refl

-- ---- pcap

fault_front : (x a : List ℕ) → 24 ≤ length x → header_fault (x ++ a) ≡ header_fault x
fault_front x a size =
    ap (λ (m : Option FileHeader). fault_by m (length (x ++ a))) (file_header_front x a size)
    ∙ by_header (file_header x) where
      by_header : (m : Option FileHeader) → fault_by m (length (x ++ a)) ≡ fault_by m (length x)
      by_header None = refl
      by_header (Some h) =
          let all : nat_lt (length (x ++ a)) 24 ≡ false =
          grind (arith, nat_tests, length-append x a) in
          let enough : nat_lt (length x) 24 ≡ false = grind (arith, nat_tests) in
          rw (all, enough) refl

pcap_one : (s t u : PcapDecoder) (x y a b : List ℕ) (events others : List Event)
    → Item s x events t → Item s y others u → x ++ a ≡ y ++ b
    → (x ≡ y) × (events ≡ others) × (t ≡ u)
pcap_one before.FileHeader t u x y a b events others p q e =
    let same = same_front x y a b (p.0 ∙ sym q.0) e in
    let header : Some p.3.0 ≡ Some q.3.0 = sym p.3.1 ∙ ap (λ (z : List ℕ). file_header z) same
    ∙ q.3.1 in
    let equal : p.3.0 ≡ q.3.0 = cc in (
      same,
      p.2 ∙ sym q.2,
      p.3.2 ∙ ap (λ (h : FileHeader). before.Record h 1) equal ∙ sym q.3.2,
    )
pcap_one (before.Record header number) t u x y a b events others p q e =
    let order = header.format.order in
    let one = record_one order p.0 q.0 a b p.1 q.1
    (ap (λ (z : List ℕ). z ++ a) (sym p.2) ∙ e ∙ ap (λ (z : List ℕ). z ++ b) q.2) in (
      p.2 ∙ ap (λ (r : Record). record_bytes order r) one.0 ∙ sym q.2,
      p.3 ∙ ap (λ (r : Record). record_event header number r ∷ []) one.0 ∙ sym q.3,
      p.4 ∙ sym q.4,
    )

pcap_stops : (s t : PcapDecoder) (x a : List ℕ) (events others : List Event) (fault : Option Fault)
    → Item s x events t → End s (x ++ a) others fault → ⊥
pcap_stops before.FileHeader t x a events others None p q = let no = q.0 in cc
pcap_stops before.FileHeader t x a events others (Some fault) p q =
    let size = p.0 in
    let found : Some fault ≡ None = q.1 ∙ fault_front x a (omega arith) ∙ p.1 in cc
pcap_stops (before.Record header number) t x a events others fault p q =
    q.0 (rw p.2 (record_front header.format.order p.0 a p.1))

pcap_ends : (s : PcapDecoder) (x : List ℕ) (events others : List Event)
    (fault other : Option Fault) → End s x events fault → End s x others other
    → (events ≡ others) × (fault ≡ other)
pcap_ends before.FileHeader x events others fault other p q =
    (p.2 ∙ sym q.2, p.1 ∙ sym q.1)
pcap_ends (before.Record header number) x events others fault other p q =
    (p.2 ∙ sym q.2, p.1 ∙ sym q.1)

pub pcap_is_one : IsOne Item End
pcap_is_one = record { one = pcap_one; stops = pcap_stops; ends = pcap_ends }

-- ---- pcapng

block_one : (s t u : State) (x y a b : List ℕ) (events others : List Event)
    → ng.Item s x events t → ng.Item s y others u → x ++ a ≡ y ++ b
    → (x ≡ y) × (events ≡ others) × (t ≡ u)
block_one s t u x y a b events others p q e =
    let begins : BeginsWithBlock s.order p.0 x = p.1 in
    let other : BeginsWithBlock s.order q.0 y = q.1 in
    let headers : Some p.0 ≡ Some q.0 = sym begins.header
    ∙ sym (block_front s.order x a begins.size)
    ∙ ap (λ (z : List ℕ). block_header s.order z) e ∙ block_front s.order y b other.size
    ∙ other.header in
    let header : p.0 ≡ q.0 = cc in
    let same = same_front x y a b
    (p.2 ∙ ap (λ (h : BlockHeader). h.total_length) header ∙ sym q.2) e in
    let bodies : body_of p.0 x ≡ body_of q.0 y = ap (λ (h : BlockHeader). body_of h x) header
    ∙ ap (λ (z : List ℕ). body_of q.0 z) same in (
      same,
      p.3 ∙ ap (λ (h : BlockHeader). block_events s.interfaces s.number h (body_of p.0 x)) header
          ∙ ap (λ (z : List ℕ). block_events s.interfaces s.number q.0 z) bodies ∙ sym q.3,
      p.4 ∙ ap (λ (h : BlockHeader). after_block s h (body_of p.0 x)) header
          ∙ ap (λ (z : List ℕ). after_block s q.0 z) bodies ∙ sym q.4,
    )

block_stops : (s t : State) (x a : List ℕ) (events others : List Event) (fault : Option Fault)
    → ng.Item s x events t → ng.End s (x ++ a) others fault → ⊥
block_stops s t x a events others fault p q =
    let begins : BeginsWithBlock s.order p.0 x = p.1 in
    let size = begins.size in
    let whole = begins.whole in
    q.0 p.0 (record {
      size = omega (arith, length-append x a);
      header = block_front s.order x a begins.size ∙ begins.header;
      whole = omega (arith, length-append x a);
    })

block_ends : (s : State) (x : List ℕ) (events others : List Event) (fault other : Option Fault)
    → ng.End s x events fault → ng.End s x others other → (events ≡ others) × (fault ≡ other)
block_ends s x events others fault other p q = (p.1 ∙ sym q.1, p.2 ∙ sym q.2)

pub pcapng_is_one : IsOne ng.Item ng.End
pcapng_is_one = record { one = block_one; stops = block_stops; ends = block_ends }
