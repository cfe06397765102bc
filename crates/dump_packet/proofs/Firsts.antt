-- A loop over a list that looks for the first element that is so.
use Rattle.std.proofs.Common.{◌≡◌, ◌+◌, ◌<◌, ◌≤◌, ℕ, List, [], ◌∷◌, length, take, slice_index_or, inl, inr, sym, ap, subst, ◌∙◌, arith}
use Rattle.std.specs.List.{All, Any}
use Rattle.std.proofs.lemmas.Bool.{cases_eq}
use Rattle.std.proofs.lemmas.List.{get_or-take, get_or_default, length-take, take_all}
use Rattle.dump_packet.specs.Firsts.{IsFirst}

module _ {X : Type 0} (P : X → Type 0) (xs : List X) (i : ℕ) where
  -- none before it is, nor is it
  pub none_more_at : (d : X) → i < length xs → ¬ (P (slice_index_or xs i d))
      → All (λ y. ¬ (P y)) (take i xs) → All (λ y. ¬ (P y)) (take (i + 1) xs)
  none_more_at d within not_it before k e k_in holds =
      let below : k < i + 1 = omega (arith, k_in, length-take (i + 1) xs) in
      let same = get_or-take (i + 1) xs k e below in
      elim (cases_eq k i) [
        | inl here ↦
            not_it (subst P
            (same ∙ ap (λ (n : ℕ). slice_index_or xs n e) here ∙ get_or_default xs i e d within)
            holds)
        | inr apart ↦
            let less : k < i = omega (arith, below, apart) in
            before k e (omega (arith, less, within, length-take i xs))
            (subst P (same ∙ sym (get_or-take i xs k e less)) holds)
      ]

  pub none_more : (x : X) → i < length xs → x ≡ slice_index_or xs i x → ¬ (P x)
      → All (λ y. ¬ (P y)) (take i xs) → All (λ y. ¬ (P y)) (take (i + 1) xs)
  none_more x within is not_it = none_more_at x within (λ holds. not_it (subst P (sym is) holds))

  -- none of all is
  pub none_of_all : length xs ≤ i → All (λ y. ¬ (P y)) (take i xs) → ¬ (Any P xs)
  none_of_all past before any =
      before any.0 any.1 (omega (arith, any.2, past, length-take i xs))
      (subst P
      (sym (ap (λ (l : List X). slice_index_or l any.0 any.1) (take_all i xs past) ∙ any.3))
      any.4)

-- the one in a place is one of all
pub any_at : {X : Type 0} (P : X → Type 0) (xs : List X) (i : ℕ) → IsFirst P xs i → Any P xs
any_at P [] i is = absurd (omega (arith, is.0))
any_at P (x ∷ xs) i is =
    let y = slice_index_or (x ∷ xs) i x in
    (i, y, is.0, get_or_default (x ∷ xs) i y x is.0, is.2 x)
