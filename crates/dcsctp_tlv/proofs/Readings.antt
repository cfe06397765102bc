-- What a check of one kind finds, at the level of its table; and what is known where it passed.
use Rattle.std.proofs.Common.{◌≡◌, Bool, true, false, cond, ℕ, List, Result, Ok, Err, refl, sym, ◌∙◌, IsOk}
use Rattle.dcsctp_tlv.specs.{declared.error.LocatedFault.{LocatedFault}, Fault.{Fault}, Level.{Row, as_row}, Reading.{Answers, locating, RowAnswer, Counted}}

-- ---- what is known where a value has a meaning

-- a test, and a fault where it fails
pub ok_passed : {T : Type 0} (b : Bool) (r : Result T Fault) (e : Fault) → IsOk (cond b r (Err e))
    → b ≡ true
ok_passed true r e ok = refl
ok_passed false r e ok = absurd (let h : false ≡ true = ok in cc)

-- a test, and a fault where it holds
pub ok_not_refused : {T : Type 0} (b : Bool) (r : Result T Fault) (e : Fault)
    → IsOk (cond b (Err e) r) → (b ≡ false) × IsOk r
ok_not_refused false r e ok = (refl, ok)
ok_not_refused true r e ok = absurd (let h : false ≡ true = ok in cc)

-- ---- a check of a kind with a list, at the level of its table

pub finds_as : {A B : Type 0} (f : A → B) (row : Row A) (parts : A → ℕ) (all : B → ℕ)
    → ((x : A) → all (f x) ≡ parts x) → (v : List ℕ) (r : Result ℕ LocatedFault)
    → Answers locating (λ (n : ℕ). n) (Counted parts (RowAnswer row v)) r
    → Answers locating (λ (n : ℕ). n) (Counted all (RowAnswer (as_row f row) v)) r
finds_as f row parts all same v (Ok n) p = (f p.0, (p.0, p.1, refl), p.2 ∙ sym (same p.0))
finds_as f row parts all same v (Err l) p = p
