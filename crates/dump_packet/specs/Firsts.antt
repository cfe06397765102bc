-- The first element of a list that is so.
use Rattle.std.specs.Prelude.{◌<◌, ℕ, List, length, take, All}
use Rattle.std.specs.List.{HoldsAt}

-- it is in this place, and none before it is so
abbrev pub IsFirst : {X : Type 0} → (X → Type 0) → List X → ℕ → Type 0
IsFirst {X} P xs place =
    (place < length xs) × All (λ x. ¬ (P x)) (take place xs) × HoldsAt P xs place
