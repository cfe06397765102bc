-- The parts of a list, and of one of questions.
use Rattle.std.proofs.Common.{◌≡◌, ◌+◌, ◌<◌, ℕ, suc, List, [], ◌∷◌, ◌++◌, length, take, drop, slice_index_or, slice_set, sym, ap, ◌∙◌, refl, arith}
use Rattle.std.proofs.lemmas.List.{drop_more, take-append-drop, set_split, set_at}
use Rattle.dump_packet.specs.declared.unanswered.Question.{Question}

-- the elements before a place, the one at it, and those after it
pub split : {X : Type 0} (qs : List X) (place : ℕ) (d : X) → place < length qs
    → qs ≡ take place qs ++ slice_index_or qs place d ∷ drop (place + 1) qs
split qs place d within =
    sym (take-append-drop place qs)
    ∙ ap (λ rest. take place qs ++ rest) (drop_more qs place d within)

pub split_set : {X : Type 0} (qs : List X) (place : ℕ) (q : X) → place < length qs
    → slice_set qs place q ≡ take place qs ++ q ∷ drop (place + 1) qs
split_set qs place q within =
    let e : suc place ≡ place + 1 = omega arith in
    set_split qs place q within ∙ ap (λ (n : ℕ). take place qs ++ q ∷ drop n qs) e

-- the first one left, and one more at the end
pub turned : (qs all : List Question) (q : Question) → length qs ≡ 8 → all ≡ drop 1 qs ++ take 1 qs
    → slice_set all 7 q ≡ drop 1 qs ++ q ∷ []
turned [] all q long is = absurd (omega (arith, long))
turned (x ∷ qs) all q long is =
    ap (λ (l : List Question). slice_set l 7 q) is ∙ set_at qs x [] q 7 (omega (arith, long))

pub front : (qs : List Question) (d : Question) → 0 < length qs
    → qs ≡ slice_index_or qs 0 d ∷ drop 1 qs
front [] d some = absurd (omega (arith, some))
front (x ∷ qs) d some = refl
