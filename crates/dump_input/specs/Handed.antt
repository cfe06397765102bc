-- Which events of an input a printer was handed.
use Rattle.std.specs.Prelude.{◌≡◌, ◌<◌, length, ◌⊎◌, ◌↔◌, ℕ, false, true, List, Option, None, Some, IfSome, Result, IsErrOf}
use Rattle.std.specs.Io.{StartsWith}
use Rattle.std.specs.Io.KnownBytes.{Consumes}
use Rattle.dump_io.specs.Watched.{has_failed}
use Rattle.dump_io.specs.declared.watched.Watched.{Watched}
use Rattle.dump_capture.specs.Event.{Event, Hands}
use Rattle.dump_capture.specs.Decoding.{Items, Reads, IsLine, fed}
use Rattle.dump_capture.specs.declared.decoder.Extent.{Extent}
use Rattle.dump_capture.specs.declared.decoder.Extent.TheVariants as extent
use Rattle.dump_capture.specs.declared.decoder.Fault.{Fault}
use Rattle.dump_input.specs.declared.stop.Stop.{Stop}
use Rattle.dump_input.specs.declared.stop.Stop.TheVariants as stop

-- ---- a printer, of whose type `handed` is, and an input of which `left` is left

-- it was handed the events of all that was left, up to the end, or to a fault
pub record HandsAll {S P : Type 0} (Item : S → List ℕ → List Event → S → Type 0)
    (End : S → List ℕ → List Event → Option Fault → Type 0) (handed : P → List Event → Type 0)
    (s : S) (left : Option (List ℕ)) (old new : P) (fault : Option Fault) : Type 0 where
  pub bytes : List ℕ
  pub events : List Event
  pub all : IfSome left (λ l. l ≡ bytes)
  pub reads : Reads Item End s bytes events fault
  pub hands : Hands handed old new events

-- it was handed the events of the items that are a beginning of what was left
pub record HandsFront {S P : Type 0} (Item : S → List ℕ → List Event → S → Type 0)
    (handed : P → List Event → Type 0) (s : S) (left : Option (List ℕ)) (old new : P) : Type 0 where
  pub bytes : List ℕ
  pub events : List Event
  pub after : S
  pub front : IfSome left (λ l. StartsWith l bytes)
  pub items : Items Item s bytes events after
  pub hands : Hands handed old new events

-- What it was handed where a run stopped so: of an input that has a fault all events before it; of
-- any other one those of a beginning, or all.
abbrev pub Stops : {S P : Type 0} → (S → List ℕ → List Event → S → Type 0)
    → (S → List ℕ → List Event → Option Fault → Type 0) → (P → List Event → Type 0)
    → S → Option (List ℕ) → P → P → Stop → Type 0
Stops Item End handed s left old new (stop.Fault fault) =
    HandsAll Item End handed s left old new (Some fault)
Stops Item End handed s left old new _ =
    HandsFront Item handed s left old new ⊎ HandsAll Item End handed s left old new None

-- ---- a step

-- items were taken from the front of what was left, and their events handed on
pub record Takes {S P : Type 0} (Item : S → List ℕ → List Event → S → Type 0)
    (handed : P → List Event → Type 0) (s t : S) (before after : Option (List ℕ)) (old new : P)
    : Type 0 where
  pub bytes : List ℕ
  pub events : List Event
  pub consumes : Consumes before after bytes
  pub items : Items Item s bytes events t
  pub hands : Hands handed old new events

-- so much was dropped: as many bytes, or a line and its line feed
abbrev pub Reaches : Extent → List ℕ → Type 0
Reaches (extent.Bytes n) bytes = length bytes ≡ n
Reaches extent.Line bytes = (line : List ℕ) × IsLine line × (bytes ≡ fed line)

-- there was less: fewer bytes, or a line without a line feed
abbrev pub FallsShort : Extent → List ℕ → Type 0
FallsShort (extent.Bytes n) bytes = length bytes < n
FallsShort extent.Line bytes = IsLine bytes

-- ---- failures

-- it says nothing of the input
abbrev pub IsNoFault : Stop → Type 0
IsNoFault (stop.Fault fault) = ⊥
IsNoFault _ = Unit {0}

-- A call ends in this error if and only if its device failed in it; of a device that had failed
-- before, nothing is said.
abbrev pub FailsWith : {T E D : Type 0} → E → Result T E → Watched D → Watched D → Type 0
FailsWith error result old new =
    has_failed old ≡ false → IsErrOf result error ↔ (has_failed new ≡ true)
