-- How many trees there are, those within trees included: a word of this library, for the bounds on
-- what reading takes.
use Rattle.std.specs.Prelude.{ℕ, ◌+◌, List, [], ◌∷◌}

-- the counts of a list together
abbrev pub total : {T : Type 0} → (T → ℕ) → List T → ℕ
total count [] = 0
total count (t ∷ ts) = count t + total count ts
