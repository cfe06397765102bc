-- Printed lists, item by item.
use Rattle.std.proofs.{Common.{◌≡◌, ℕ, suc, zero, ◌+◌, ◌<◌, List, [], ◌∷◌, ◌++◌, length, get_or, take, refl, sym, ap, ◌∙◌, append_assoc, arith, map}, lemmas.List.{map_push}}
use Rattle.dcsctp_tlv.{proofs.Images.{take_next}, specs.Text.{joined}}

joined-push : (separator : List ℕ) (u : List ℕ) (ts : List (List ℕ)) (t : List ℕ)
    → joined separator ((u ∷ ts) ++ t ∷ []) ≡ joined separator (u ∷ ts) ++ (separator ++ t)
joined-push separator u [] t = refl
joined-push separator u (v ∷ ts) t =
    rw (joined-push separator v ts t) (simp append_assoc)

one_more : {X : Type 0} (text : X → List ℕ) (xs : List X) (i : ℕ) (x : X) → i < length xs
    → x ≡ get_or xs i x → map text (take (i + 1) xs) ≡ map text (take i xs) ++ text x ∷ []
one_more text xs i x lt e = rw (take_next xs i x lt e) (map_push text (take i xs) x)

-- the first item stands alone
pub joined_first : {X : Type 0} (separator : List ℕ) (text : X → List ℕ) (xs : List X) (i : ℕ)
    (x : X) → i ≡ 0 → i < length xs → x ≡ get_or xs i x
    → joined separator (map text (take i xs)) ++ text x ≡ joined separator
    (map text (take (i + 1) xs))
joined_first separator text xs zero x none lt e =
    sym (ap (joined separator) (one_more text xs zero x lt e))
joined_first separator text xs (suc i) x none lt e = absurd (omega arith)

-- each other stands after a separator
pub joined_next : {X : Type 0} (separator : List ℕ) (text : X → List ℕ) (xs : List X) (i : ℕ)
    (x : X) → 0 < i → i < length xs → x ≡ get_or xs i x
    → joined separator (map text (take i xs)) ++ (separator ++ text x) ≡ joined separator
    (map text (take (i + 1) xs))
joined_next separator text [] i x some lt e = absurd (omega arith)
joined_next separator text (y ∷ xs) zero x some lt e = absurd (omega arith)
joined_next separator text (y ∷ xs) (suc i) x some lt e =
    sym (ap (joined separator) (one_more text (y ∷ xs) (suc i) x lt e) ∙ joined-push separator
    (text y) (map text (take i xs)) (text x))
