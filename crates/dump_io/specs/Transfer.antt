-- What a call that ends early did to the bytes of its device.
use Rattle.std.specs.Prelude.{◌≡◌, ℕ, ◌+◌, ◌≤◌, List, ◌++◌, take, length, Option}
use Rattle.std.specs.Io.{StartsWith}
use Rattle.std.specs.Io.KnownBytes.{Consumes, Appends}

-- at most `most` bytes were taken from the reader
abbrev pub TakesAtMost : ℕ → Option (List ℕ) → Option (List ℕ) → Type 0
TakesAtMost most old new = (taken : List ℕ) × (length taken ≤ most) × Consumes old new taken

-- the writer took a beginning of the bytes
abbrev pub AppendsBeginning : Option (List ℕ) → Option (List ℕ) → List ℕ → Type 0
AppendsBeginning old new bytes =
    (written : List ℕ) × StartsWith bytes written × Appends old new written

-- a read after the first `end` bytes of the memory added these many bytes
abbrev pub AddsAfter : ℕ → ℕ → List ℕ → Option (List ℕ) → List ℕ → Option (List ℕ) → Type 0
AddsAfter end n old before new after =
    (more : List ℕ) × (length more ≡ n) × (take (end + n) new ≡ take end old ++ more)
    × Consumes before after more
