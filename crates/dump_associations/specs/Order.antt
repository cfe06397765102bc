-- In which order associations leave a full table.
use Rattle.std.specs.Prelude.{ℕ, ◌++◌, List, Option, option_map}
use Rattle.lru.specs.LruCache.{last_entry}

-- The slot whose turn it is: they leave from the last one on, those that ended before all others.
abbrev pub first_of : List (ℕ × Unit {0}) → List (ℕ × Unit {0}) → Option ℕ
first_of living ended = option_map (λ e. e.0) (last_entry (living ++ ended))
