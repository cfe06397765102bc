-- What a capture has: an event of each record, or of each packet and each unread line of a text.
use Rattle.std.specs.Prelude.{ℕ, List, ◌++◌}
use Rattle.dump_capture.specs.declared.event.Part.{Part}
use Rattle.dump_capture.specs.declared.event.Seen.{Seen}
use Rattle.dump_capture.specs.declared.event.Skipped.{Skipped}

-- a frame that was seen so, with its link type, its length on the link, and its captured bytes; or
-- a record or a line that holds none, by its number, and why
pub data Event : Type 0 where
  Saw : Seen → ℕ → ℕ → List ℕ → Event
  Skip : Part → ℕ → Skipped → Event

-- The sink was handed these events, in this order, after those that it had been handed. `handed` is
-- what its type says.
abbrev pub Hands : {S : Type 0} → (S → List Event → Type 0) → S → S → List Event → Type 0
Hands handed old new events = (xs : List Event) → handed old xs → handed new (xs ++ events)
