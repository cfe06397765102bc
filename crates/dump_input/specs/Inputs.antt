-- The events of an input, by what it is.
use Rattle.std.specs.Prelude.{◌≡◌, ◌⊎◌, ℕ, Bool, ◌||◌, nat_eq, List, [], ◌∷◌, if◌then◌else◌, Option, None, Some, IfSome}
use Rattle.std.specs.List.{starts_with}
use Rattle.dump_capture.specs.Event.{Event, Hands}
use Rattle.dump_capture.specs.Pcap.{input_kind}
use Rattle.dump_capture.specs.PcapEvents as pcap
use Rattle.dump_capture.specs.PcapngEvents as pcapng
use Rattle.dump_capture.specs.Text as text
use Rattle.dump_capture.specs.declared.pcap.InputKind.{InputKind}
use Rattle.dump_capture.specs.declared.pcap.InputKind.TheVariants as kinds
use Rattle.dump_capture.specs.declared.pcap_decoder.PcapDecoder.{PcapDecoder}
use Rattle.dump_capture.specs.declared.decoder.Fault.{Fault}
use Rattle.dump_input.specs.declared.format.FormatOption.{FormatOption}
use Rattle.dump_input.specs.declared.format.FormatOption.TheVariants as form
use Rattle.dump_input.specs.declared.input.InputFormat.{InputFormat}
use Rattle.dump_input.specs.declared.input.InputFormat.TheVariants as format
use Rattle.dump_input.specs.declared.stop.Stop.{Stop}
use Rattle.dump_input.specs.declared.stop.Stop.TheVariants as stop
use Rattle.dump_input.specs.Handed.{HandsAll, HandsFront}

-- ---- what an input is

abbrev pub format_by : InputKind → InputFormat
format_by (kinds.Pcap f) = format.Pcap
format_by kinds.Pcapng = format.Pcapng
format_by kinds.Text = format.Text

-- The first bytes of what gzip (RFC 1952 section 2.3.1), xz, zstd (RFC 8878 section 3.1.1) and bzip2
-- write. Of xz they are the first four of six.
abbrev pub is_compressed : List ℕ → Bool
is_compressed bytes =
    starts_with nat_eq bytes (0x1f ∷ 0x8b ∷ [])
    || starts_with nat_eq bytes (0xfd ∷ 0x37 ∷ 0x7a ∷ 0x58 ∷ [])
    || starts_with nat_eq bytes (0x28 ∷ 0xb5 ∷ 0x2f ∷ 0xfd ∷ [])
    || starts_with nat_eq bytes (0x42 ∷ 0x5a ∷ 0x68 ∷ [])

-- by its first bytes
abbrev pub detected : List ℕ → InputFormat
detected bytes =
    if is_compressed bytes then format.Compressed else
    format_by (input_kind bytes)

abbrev pub format_of : FormatOption → List ℕ → InputFormat
format_of form.Detected bytes = detected bytes
format_of form.Pcap bytes = format.Pcap
format_of form.Pcapng bytes = format.Pcapng
format_of form.Text bytes = format.Text

-- ---- its events

-- a printer, of whose type `handed` is, was handed the events of all that was left of such an
-- input, up to the end, or to a fault
abbrev pub HandsFormat : {P : Type 0} → (P → List Event → Type 0) → Option (List ℕ) → P → P
    → Option Fault → InputFormat → Type 0
HandsFormat handed left old new fault format.Pcap =
    HandsAll pcap.Item pcap.End handed PcapDecoder.FileHeader left old new fault
HandsFormat handed left old new fault format.Pcapng =
    HandsAll pcapng.Item pcapng.End handed pcapng.before_blocks left old new fault
HandsFormat handed left old new fault format.Text =
    HandsAll text.Item text.End handed tt left old new fault
HandsFormat handed left old new fault format.Compressed = ⊥

-- those of a beginning
abbrev pub HandsFrontOf : {P : Type 0} → (P → List Event → Type 0) → Option (List ℕ) → P → P
    → InputFormat → Type 0
HandsFrontOf handed left old new format.Pcap =
    HandsFront pcap.Item handed PcapDecoder.FileHeader left old new
HandsFrontOf handed left old new format.Pcapng =
    HandsFront pcapng.Item handed pcapng.before_blocks left old new
HandsFrontOf handed left old new format.Text =
    HandsFront text.Item handed tt left old new
HandsFrontOf handed left old new format.Compressed = Hands handed old new []

-- of an input that is what its first bytes say, or what the caller says
abbrev pub OfFormat : FormatOption → Option (List ℕ) → (InputFormat → Type 0) → Type 0
OfFormat form left Holds =
    (k : InputFormat) × IfSome left (λ l. k ≡ format_of form l) × Holds k

-- The printer was handed the events of all of an input, up to the end, or to a fault.
abbrev pub HandsInput : {P : Type 0} → FormatOption → (P → List Event → Type 0)
    → Option (List ℕ) → P → P → Option Fault → Type 0
HandsInput form handed left old new fault =
    OfFormat form left (HandsFormat handed left old new fault)

-- What it was handed where reading stopped so: of an input that has a fault all events before it;
-- of any other one those of a beginning, or all.
abbrev pub StopsInput : {P : Type 0} → FormatOption → (P → List Event → Type 0)
    → Option (List ℕ) → P → P → Stop → Type 0
StopsInput form handed left old new (stop.Fault fault) =
    HandsInput form handed left old new (Some fault)
StopsInput form handed left old new _ =
    OfFormat form left (HandsFrontOf handed left old new)
    ⊎ HandsInput form handed left old new None
