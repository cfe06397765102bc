-- What an input is, and the events that its decoder handed on.
use Rattle.std.proofs.Common.{◌≡◌, ◌⊎◌, inl, inr, ◌≤◌, ℕ, if◌then◌else◌, List, [], ◌∷◌, ◌++◌, length, take, Option, None, Some, IfSome, Result, Ok, Err, OnOk, IfErr, refl, sym, ap, subst, ◌∙◌, arith}
use Rattle.std.proofs.lemmas.List.{take-append-le}
use Rattle.std.specs.Io.KnownBytes.{Keeps, prepend_known}
use Rattle.dump_capture.specs.Event.{Event, Hands}
use Rattle.dump_capture.specs.Decoding.{none}
use Rattle.dump_capture.specs.Pcap.{magic_format, input_kind, input_kind_by}
use Rattle.dump_capture.specs.declared.pcap.PcapFormat.{PcapFormat}
use Rattle.dump_capture.proofs.Fronts.{magic_front}
use Rattle.dump_capture.specs.PcapEvents as pcap
use Rattle.dump_capture.specs.PcapngEvents as pcapng
use Rattle.dump_capture.specs.Text as text
use Rattle.dump_capture.specs.declared.pcap_decoder.PcapDecoder.{PcapDecoder}
use Rattle.dump_capture.specs.declared.decoder.Fault.{Fault}
use Rattle.dump_capture.proofs.Handed.{Hands-trans}
use Rattle.dump_input.specs.declared.format.FormatOption.{FormatOption}
use Rattle.dump_input.specs.declared.format.FormatOption.TheVariants as form
use Rattle.dump_input.specs.declared.input.InputFormat.{InputFormat}
use Rattle.dump_input.specs.declared.input.InputFormat.TheVariants as format
use Rattle.dump_input.specs.declared.stop.Stop.{Stop}
use Rattle.dump_input.specs.declared.stop.Stop.TheVariants as stop
use Rattle.dump_input.specs.Handed.{HandsAll, HandsFront, Stops, IsNoFault}
use Rattle.dump_input.specs.Inputs.{is_compressed, format_by, format_of, HandsFormat, HandsFrontOf, OfFormat, HandsInput, StopsInput}
use Rattle.dump_input.proofs.Steps.{starts_nil}

-- ---- the first bytes

uncompressed_front : (held rest : List ℕ) → 4 ≤ length held
    → format_by (input_kind (held ++ rest)) ≡ format_by (input_kind held)
uncompressed_front held rest size =
    ap (λ m. format_by (input_kind_by m (held ++ rest))) (magic_front held rest size)
    ∙ by_magic (magic_format held) where
      by_magic : (m : Option PcapFormat) → format_by (input_kind_by m (held ++ rest))
          ≡ format_by (input_kind_by m held)
      by_magic (Some f) = refl
      by_magic None =
          let four : take 4 (held ++ rest) ≡ take 4 held = take-append-le 4 held rest size in
          rw four refl

format_front : (f : FormatOption) (held rest : List ℕ) → 4 ≤ length held
    → format_of f (held ++ rest) ≡ format_of f held
format_front form.Pcap held rest size = refl
format_front form.Pcapng held rest size = refl
format_front form.Text held rest size = refl
format_front form.Detected held rest size =
    let two : take 2 (held ++ rest) ≡ take 2 held = take-append-le 2 held rest (omega arith) in
    let three : take 3 (held ++ rest) ≡ take 3 held = take-append-le 3 held rest (omega arith) in
    let four : take 4 (held ++ rest) ≡ take 4 held = take-append-le 4 held rest size in
    ap (λ (k : InputFormat). if is_compressed (held ++ rest) then format.Compressed else k)
    (uncompressed_front held rest size)
    ∙ rw (two, three, four) refl

-- what is left of the input begins with what is held
pub format_known : (f : FormatOption) (held : List ℕ) (found : InputFormat) (remaining : Option (List ℕ))
    → 4 ≤ length held → found ≡ format_of f held
    → IfSome (prepend_known held remaining) (λ l. found ≡ format_of f l)
format_known f held found None size is = tt
format_known f held found (Some rest) size is = is ∙ sym (format_front f held rest size)

kept : (Q : List ℕ → Type 0) (a b : Option (List ℕ)) → Keeps a b → IfSome b Q → IfSome a Q
kept Q None b keeps holds = tt
kept Q (Some x) None keeps holds = absurd keeps
kept Q (Some x) (Some y) keeps holds = subst Q keeps holds

module _ {P : Type 0} (handed : P → List Event → Type 0) (f : FormatOption) (all left : Option (List ℕ))
    (old mid new : P) (keeps : Keeps all left) (before : Hands handed old mid []) where
  -- ---- nothing was handed on before

  later : (events : List Event) → Hands handed mid new events → Hands handed old new events
  later events after = Hands-trans handed old mid new [] events before after

  HandsAll-later : {S : Type 0} (Item : S → List ℕ → List Event → S → Type 0)
      (End : S → List ℕ → List Event → Option Fault → Type 0) (s : S) (fault : Option Fault)
      → HandsAll Item End handed s left mid new fault
      → HandsAll Item End handed s all old new fault
  HandsAll-later Item End s fault h = record {
    bytes = h.bytes;
    events = h.events;
    all = kept _ all left keeps h.all;
    reads = h.reads;
    hands = later h.events h.hands;
  }

  HandsFront-later : {S : Type 0} (Item : S → List ℕ → List Event → S → Type 0) (s : S)
      → HandsFront Item handed s left mid new → HandsFront Item handed s all old new
  HandsFront-later Item s h = record {
    bytes = h.bytes;
    events = h.events;
    after = h.after;
    front = kept _ all left keeps h.front;
    items = h.items;
    hands = later h.events h.hands;
  }

  HandsFormat-later : (k : InputFormat) (fault : Option Fault) → HandsFormat handed left mid new fault k
      → HandsFormat handed all old new fault k
  HandsFormat-later format.Pcap fault h = HandsAll-later pcap.Item pcap.End PcapDecoder.FileHeader fault h
  HandsFormat-later format.Pcapng fault h =
      HandsAll-later pcapng.Item pcapng.End pcapng.before_blocks fault h
  HandsFormat-later format.Text fault h = HandsAll-later text.Item text.End tt fault h
  HandsFormat-later format.Compressed fault h = absurd h

  HandsFrontOf-later : (k : InputFormat) → HandsFrontOf handed left mid new k
      → HandsFrontOf handed all old new k
  HandsFrontOf-later format.Pcap h = HandsFront-later pcap.Item PcapDecoder.FileHeader h
  HandsFrontOf-later format.Pcapng h = HandsFront-later pcapng.Item pcapng.before_blocks h
  HandsFrontOf-later format.Text h = HandsFront-later text.Item tt h
  HandsFrontOf-later format.Compressed h = later [] h

  -- ---- the end of a run

  pub input_whole : (k : InputFormat) (r : Result (Unit {0}) Stop)
      → IfSome left (λ l. k ≡ format_of f l) → OnOk r (HandsFormat handed left mid new None k)
      → OnOk r (HandsInput f handed all old new None)
  input_whole k (Err e) known h = tt
  input_whole k (Ok x) known h = (k, kept _ all left keeps known, HandsFormat-later k None h)

  module _ {S : Type 0} (Item : S → List ℕ → List Event → S → Type 0)
      (End : S → List ℕ → List Event → Option Fault → Type 0) (s : S) (k : InputFormat)
      (as_all : (fault : Option Fault) → HandsAll Item End handed s left mid new fault
      → HandsFormat handed left mid new fault k)
      (as_front : HandsFront Item handed s left mid new → HandsFrontOf handed left mid new k)
      (known : IfSome left (λ l. k ≡ format_of f l)) where
    either : HandsFront Item handed s left mid new ⊎ HandsAll Item End handed s left mid new None
        → OfFormat f all (HandsFrontOf handed all old new) ⊎ HandsInput f handed all old new None
    either (inl h) = inl (k, kept _ all left keeps known, HandsFrontOf-later k (as_front h))
    either (inr h) = inr (k, kept _ all left keeps known, HandsFormat-later k None (as_all None h))

    of_stops : (why : Stop) → Stops Item End handed s left mid new why
        → StopsInput f handed all old new why
    of_stops (stop.Fault fault) h =
        (k, kept _ all left keeps known, HandsFormat-later k (Some fault) (as_all (Some fault) h))
    of_stops stop.Read h = either h
    of_stops stop.Printer h = either h
    of_stops stop.Endless h = either h
    of_stops stop.OutOfMemory h = either h
    of_stops stop.Compressed h = either h

    pub input_stopped : (r : Result (Unit {0}) Stop)
        → IfErr r (Stops Item End handed s left mid new)
        → IfErr r (StopsInput f handed all old new)
    input_stopped (Ok x) h = tt
    input_stopped (Err e) h = of_stops e h

-- ---- no event was handed on

front_none : {P : Type 0} (handed : P → List Event → Type 0) (all : Option (List ℕ)) (old new : P)
    (k : InputFormat) → Hands handed old new [] → HandsFrontOf handed all old new k
front_none handed all old new format.Pcap hands = record {
  bytes = [];
  events = [];
  after = PcapDecoder.FileHeader;
  front = starts_nil all;
  items = none PcapDecoder.FileHeader PcapDecoder.FileHeader [] [] refl refl refl;
  hands = hands;
}
front_none handed all old new format.Pcapng hands = record {
  bytes = [];
  events = [];
  after = pcapng.before_blocks;
  front = starts_nil all;
  items = none pcapng.before_blocks pcapng.before_blocks [] [] refl refl refl;
  hands = hands;
}
front_none handed all old new format.Text hands = record {
  bytes = [];
  events = [];
  after = tt;
  front = starts_nil all;
  items = none tt tt [] [] refl refl refl;
  hands = hands;
}
front_none handed all old new format.Compressed hands = hands

of_any_format : {P : Type 0} (handed : P → List Event → Type 0) (f : FormatOption) (all : Option (List ℕ))
    (old new : P) → Hands handed old new [] → OfFormat f all (HandsFrontOf handed all old new)
of_any_format handed f None old new hands =
    (format.Text, tt, front_none handed None old new format.Text hands)
of_any_format handed f (Some x) old new hands =
    (format_of f x, refl, front_none handed (Some x) old new (format_of f x) hands)

pub stops_early : {P : Type 0} (handed : P → List Event → Type 0) (f : FormatOption)
    (all : Option (List ℕ)) (old new : P) (why : Stop) → IsNoFault why → Hands handed old new []
    → StopsInput f handed all old new why
stops_early handed f all old new (stop.Fault fault) no_fault hands = absurd no_fault
stops_early handed f all old new stop.Read no_fault hands =
    inl (of_any_format handed f all old new hands)
stops_early handed f all old new stop.Printer no_fault hands =
    inl (of_any_format handed f all old new hands)
stops_early handed f all old new stop.Endless no_fault hands =
    inl (of_any_format handed f all old new hands)
stops_early handed f all old new stop.OutOfMemory no_fault hands =
    inl (of_any_format handed f all old new hands)
stops_early handed f all old new stop.Compressed no_fault hands =
    inl (of_any_format handed f all old new hands)
