-- Slots in the order of their last use.
use Rattle.std.proofs.Common.{◌≡◌, ◌<◌, ◌-◌, ℕ, suc, true, false, List, [], ◌∷◌, ◌++◌, length, Option, Some, None, nat_eq, refl, sym, ap, ◌∙◌, arith, append-nil}
use Rattle.std.specs.Option.{option_or}
use Rattle.std.specs.Map.{lookup_entry, remove_entry}
use Rattle.lru.specs.LruCache.{LruCache, put_entries, last_entry}
use Rattle.lru.proofs.CallerLemmas.{Contains-lookup_entry}
use Rattle.std.proofs.lemmas.Bool.{eqb-true}
use Rattle.std.proofs.lemmas.Option.{slice_get-get_or}
use Rattle.std.specs.List.{slice_get}
use Rattle.std.specs.Prelude.{option_map}
use Rattle.std.proofs.lemmas.List.{take_all}

-- where no entry has the key, none is removed
pub absent : (k : ℕ) (es : List (ℕ × Unit {0})) → lookup_entry (nat_eq k) es ≡ None → remove_entry (nat_eq k) es ≡ es
absent k [] h = refl
absent k (e ∷ es) h = (elim (nat_eq k e.0) as (λ y. nat_eq k e.0 ≡ y → remove_entry (nat_eq k) (e ∷ es) ≡ e ∷ es) [
  | true ↦ λ t. let h' = rw t at h in cc
  | false ↦ λ t. rw t (ap (λ xs. e ∷ xs) (absent k es (rw t at h)))
]) refl

front_of : (c : LruCache ℕ (Unit {0})) (k : ℕ) → length c.entries < c.cap → (o : Option (ℕ × Unit {0})) → lookup_entry (nat_eq k) c.entries ≡ o → put_entries nat_eq c k tt ≡ (k, tt) ∷ remove_entry (nat_eq k) c.entries
front_of c k less None h = rw h (rw (absent k c.entries h) (ap (λ es. (k, tt) ∷ es) (take_all (c.cap - 1) c.entries (omega (arith, less)))))
front_of c k less (Some e) h = rw h (ap (λ (j : ℕ). (j, tt) ∷ remove_entry (nat_eq k) c.entries) (sym (eqb-true k e.0 (Contains-lookup_entry (nat_eq k) c.entries e h).1)))

pub front : (c : LruCache ℕ (Unit {0})) (k : ℕ) → length c.entries < c.cap → put_entries nat_eq c k tt ≡ (k, tt) ∷ remove_entry (nat_eq k) c.entries
front c k less = front_of c k less (lookup_entry (nat_eq k) c.entries) refl

-- what comes first of two is what of it is wanted
pub picked : {P Q : Type 0} (f : P → Q) (p q : Option P) (x : P) → option_or p q ≡ Some x → option_or (option_map f p) (option_map f q) ≡ Some (f x)
picked f None q x h = ap (option_map f) h
picked f (Some y) q x h = ap (option_map f) h

module _ {K V : Type 0} where
  shorter : (x y : K × V) (ys : List (K × V)) → last_entry (x ∷ y ∷ ys) ≡ last_entry (y ∷ ys)
  shorter x y ys =
      let last : suc (suc (length ys)) - 1 ≡ suc (length ys) = omega arith in
      let last' : length ys ≡ suc (length ys) - 1 = omega arith in
      ap (slice_get (x ∷ y ∷ ys)) last ∙ ap (slice_get (y ∷ ys)) last'

  past : (xs : List (K × V)) (y : K × V) (ys : List (K × V)) → last_entry (xs ++ y ∷ ys) ≡ last_entry (y ∷ ys)
  past [] y ys = refl
  past (x ∷ []) y ys = shorter x y ys
  past (x ∷ z ∷ xs) y ys = shorter x z (xs ++ y ∷ ys) ∙ past (z ∷ xs) y ys

  -- of two lists, one after the other
  pub last_of : (xs ys : List (K × V)) → last_entry (xs ++ ys) ≡ option_or (last_entry ys) (last_entry xs)
  last_of xs [] = ap last_entry (append-nil xs)
  last_of xs (y ∷ ys) =
      past xs y ys
      ∙ rw (slice_get-get_or (y ∷ ys) (suc (length ys) - 1) y (omega arith)) refl
