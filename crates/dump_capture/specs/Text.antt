-- A text: lines with their line feeds, and what follows the last of these. Which events a line has
-- is not defined; of a packet in digits it is what the digits say.
use Rattle.std.specs.Prelude.{◌≡◌, ℕ, List, [], ◌∷◌, Option, None}
use Rattle.dump_capture.specs.Event.{Event, Saw, Skip, Hands}
use Rattle.dump_capture.specs.Decoding.{IsLine, fed}
use Rattle.dump_capture.specs.HexBytes.{Says}
use Rattle.dump_capture.specs.declared.decoder.Fault.{Fault}
use Rattle.dump_capture.specs.declared.line.Line.{Line}
use Rattle.dump_capture.specs.declared.line.Line.TheVariants as said

-- nothing is known of the lines before
abbrev pub State : Type 0
State = Unit {0}

-- a line and its line feed
abbrev pub Item : State → List ℕ → List Event → State → Type 0
Item s bytes events t = (line : List ℕ) × IsLine line × (bytes ≡ fed line)

-- what follows the last line feed
abbrev pub End : State → List ℕ → List Event → Option Fault → Type 0
End s bytes events fault = IsLine bytes × (fault ≡ None)

-- the sink was handed some events
pub record HandsSome {S : Type 0} (handed : S → List Event → Type 0) (old new : S) : Type 0 where
  pub events : List Event
  pub hands : Hands handed old new events

-- ---- a packet in digits

-- a line that is a packet: its digits are the text's
abbrev pub IsRead : List ℕ → Line → Type 0
IsRead text (said.Packet bytes) = bytes.text.now ≡ text
IsRead text _ = Unit {0}

-- the sink was handed one event, of which this holds
pub record HandsOne {S : Type 0} (handed : S → List Event → Type 0) (old new : S)
    (Is : Event → Type 0) : Type 0 where
  pub event : Event
  pub is : Is event
  pub hands : Hands handed old new (event ∷ [])

-- a frame with these bytes
abbrev pub Carries : List ℕ → Event → Type 0
Carries bytes (Saw seen link length captured) = captured ≡ bytes
Carries bytes (Skip part number why) = ⊥

-- a line that holds none
abbrev pub IsSkip : Event → Type 0
IsSkip (Saw seen link length bytes) = ⊥
IsSkip (Skip part number why) = Unit {0}

-- a frame with the bytes that the text says, or a line that holds none
abbrev pub IsSaidBy : List ℕ → Event → Type 0
IsSaidBy text (Saw seen link length bytes) = Says text bytes
IsSaidBy text (Skip part number why) = Unit {0}
