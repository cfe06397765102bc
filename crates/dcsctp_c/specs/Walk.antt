-- Items that follow one another, where a call writes a struct for each: the chunks of a packet (RFC
-- 9260 section 3.2), the parameters or the error causes of a chunk (sections 3.2.1 and 3.3.10).
use Rattle.std.specs.Prelude.{ℕ, List, [], ◌∷◌}

-- Each struct is that of the item where the one before it says that the next is; of the first, at
-- an offset.
abbrev pub AreFrom : {S : Type 0} → (ℕ → S → Type 0) → (S → ℕ) → ℕ → List S → Type 0
AreFrom IsAt next offset [] = Unit {0}
AreFrom IsAt next offset (s ∷ ss) = IsAt offset s × AreFrom IsAt next (next s) ss

-- where the next item is after these, the first of which is at an offset
abbrev pub end_of : {S : Type 0} → (S → ℕ) → ℕ → List S → ℕ
end_of next offset [] = offset
end_of next offset (s ∷ ss) = end_of next (next s) ss

-- The structs mean these trees, one for one. There may be more trees.
abbrev pub MeanEach : {S T : Type 0} → (S → T → Type 0) → List S → List T → Type 0
MeanEach Means [] trees = Unit {0}
MeanEach Means (s ∷ ss) [] = ⊥
MeanEach Means (s ∷ ss) (t ∷ ts) = Means s t × MeanEach Means ss ts
