-- What is known of the part of the input that is in memory.
use Rattle.std.specs.Prelude.{◌≡◌, ℕ, List, ◌++◌, take, drop, length, Option}
use Rattle.std.specs.Io.KnownBytes.{prepend_known, Consumes}
use Rattle.dump_io.specs.declared.window.Window.{Window}

-- the bytes that were read, and aren't used yet
abbrev pub held : Window → List ℕ
held w = drop w.start (take w.end w.bytes.items)

-- what is left of the input, in memory and in its reader, where that is known
abbrev pub left : Window → Option (List ℕ) → Option (List ℕ)
left w remaining = prepend_known (held w) remaining

-- a read added these many bytes
abbrev pub AddsRead : ℕ → Window → Option (List ℕ) → Window → Option (List ℕ) → Type 0
AddsRead n old before new after =
    (more : List ℕ) × (length more ≡ n) × (held new ≡ held old ++ more)
    × Consumes before after more
