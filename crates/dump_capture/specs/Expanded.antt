-- Events, and between them the IP packets that are put together of their fragments.
use Rattle.std.specs.Prelude.{◌≡◌, ℕ, List, [], ◌∷◌, ◌++◌, length}
use Rattle.dump_capture.specs.Event.{Event, Saw}
use Rattle.dump_capture.specs.Reassembly.{IsJoined, AreAllKept, fragments_in}
use Rattle.dump_capture.specs.declared.event.Part.TheVariants.{Fragments}
use Rattle.dump_capture.specs.declared.event.Seen.{Seen}
use Rattle.dump_capture.specs.declared.reassembly.PartialPacket.{PartialPacket}

-- as a frame was seen, but put together of `count` fragments
abbrev pub as_joined : Seen → ℕ → Seen
as_joined seen count = record seen { part = Fragments count }

-- All of these events, in order, and frames between them. Each of these is a packet that is put
-- together of fragments in the frames before it; it comes after one of these frames, and has its
-- number, place and time.
pub data Expands (port : ℕ) : List Event → List Event → Type 0 where
  none : (events all : List Event) → events ≡ [] → all ≡ [] → Expands port events all
  event : (events first all before : List Event) (last : Event)
      → Expands port first before → events ≡ first ++ last ∷ [] → all ≡ before ++ last ∷ []
      → Expands port events all
  packet : (events first all before : List Event) (seen : Seen) (link size count : ℕ)
      (frame bytes : List ℕ)
      → Expands port events before → events ≡ first ++ Saw seen link size frame ∷ []
      → IsJoined (fragments_in port events) bytes count
      → all ≡ before ++ Saw (as_joined seen count) 101 (length bytes) bytes ∷ []
      → Expands port events all

-- A sink, of whose type `handed` is, was handed these events and frames between them; what is kept
-- is of fragments in these events.
abbrev pub IsExpanded : {S : Type 0} → (S → List Event → Type 0) → ℕ → S → List PartialPacket
    → List Event → Type 0
IsExpanded handed port sink packets events =
    (all : List Event) × handed sink all × Expands port events all
    × AreAllKept (fragments_in port events) packets
