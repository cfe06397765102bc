-- Reading a capture item by item: records, blocks or lines. `Item s bytes events t` says that bytes
-- are an item, which has these events, and what is known after it; `End s bytes events fault` that
-- they are what is left at the end.
use Rattle.std.specs.Prelude.{◌≡◌, ◌+◌, ◌≤◌, ◌<◌, ◌==◌, ℕ, Bool, true, false, not, List, [], ◌∷◌, ◌++◌, Option, None, Some, length, take}
use Rattle.std.specs.List.{list_all}
use Rattle.std.specs.Io.{StartsWith}
use Rattle.dump_capture.specs.Event.{Event}
use Rattle.dump_capture.specs.declared.decoder.Extent.{Extent}
use Rattle.dump_capture.specs.declared.decoder.Extent.TheVariants as extent
use Rattle.dump_capture.specs.declared.decoder.Fault.{Fault}
use Rattle.dump_capture.specs.declared.decoder.Next.{Next}
use Rattle.dump_capture.specs.declared.decoder.Next.TheVariants as next

-- ---- lines

-- a line has no line feed (10)
abbrev pub IsLine : List ℕ → Type 0
IsLine line = list_all (λ byte. not (byte == 10)) line ≡ true

-- a line and its line feed
abbrev pub fed : List ℕ → List ℕ
fed line = line ++ 10 ∷ []

-- ---- a whole capture

-- bytes are items, one after the other, and these are their events
pub data Items {S : Type 0} (Item : S → List ℕ → List Event → S → Type 0)
    : S → List ℕ → List Event → S → Type 0 where
  none : (s t : S) (bytes : List ℕ) (events : List Event) → bytes ≡ [] → events ≡ [] → t ≡ s
      → Items Item s bytes events t
  more : (s before t : S) (bytes front item : List ℕ) (events first last : List Event)
      → Items Item s front first before → Item before item last t
      → bytes ≡ front ++ item → events ≡ first ++ last
      → Items Item s bytes events t

-- bytes are items and what is left at the end, and these are their events, in order
pub record Reads {S : Type 0} (Item : S → List ℕ → List Event → S → Type 0)
    (End : S → List ℕ → List Event → Option Fault → Type 0) (s : S) (bytes : List ℕ)
    (events : List Event) (fault : Option Fault) : Type 0 where
  pub front : List ℕ
  pub rest : List ℕ
  pub first : List Event
  pub last : List Event
  pub after : S
  pub items : Items Item s front first after
  pub end : End after rest last fault
  pub split : bytes ≡ front ++ rest
  pub whole : events ≡ first ++ last

-- ---- a step

-- An item that begins with these bytes, and reaches so far, has these events; so it has where the
-- capture ends in it. It goes on after these bytes.
abbrev pub Passes : {S : Type 0} → (S → List ℕ → List Event → S → Type 0)
    → (S → List ℕ → List Event → Option Fault → Type 0)
    → S → List ℕ → Extent → List Event → S → Type 0
Passes Item End s held (extent.Bytes n) events t =
    (length held < n)
    × ((bytes : List ℕ) → length bytes ≡ n → StartsWith bytes held → Item s bytes events t)
    × ((bytes : List ℕ) → length bytes < n → StartsWith bytes held → End s bytes events None)
Passes Item End s held extent.Line events t =
    IsLine held
    × ((line : List ℕ) → IsLine line → StartsWith line held → Item s (fed line) events t)
    × ((line : List ℕ) → IsLine line → StartsWith line held → End s line events None)

-- what the bytes in memory begin with, and its events
abbrev pub Finds : {S : Type 0} → (S → List ℕ → List Event → S → Type 0)
    → (S → List ℕ → List Event → Option Fault → Type 0)
    → S → List ℕ → Bool → List Event → S → Next → Type 0
Finds Item End s held at_end events t next.More =
    (at_end ≡ false) × (length held ≤ 262144 + 16) × (events ≡ []) × (t ≡ s)
Finds Item End s held at_end events t (next.Item n) =
    (n ≤ length held) × Item s (take n held) events t
Finds Item End s held at_end events t (next.Long reach) = Passes Item End s held reach events t
Finds Item End s held at_end events t next.End =
    (at_end ≡ true) × End s held events None
Finds Item End s held at_end events t (next.Fault fault) =
    (rest : List ℕ) → (at_end ≡ true → rest ≡ []) → End s (held ++ rest) events (Some fault)
