-- No fault is that of padding, where the rule accepts all padding and no row has such a fault.
use Rattle.std.proofs.Common.{◌≡◌, ℕ, Bool, true, false, cond, List, drop, sym, ap, subst, ◌∙◌, inl, inr, Result, Ok, Err}
use Rattle.dcsctp_tlv.specs.{Fault.{Fault, Length, Padding, Value}, Level.{Row, Level, plain, map_ok, listed, HasFault, BeginsWithFault, no_frame, value, padding}, Decided.{IgnoresPadding}}

abbrev pub Unpadded : {T : Type 0} → Row T → Type 0
Unpadded row = (v : List ℕ) (n : ℕ) → ¬ row.faults v (Padding, n)

-- ---- rows

abbrev pub NotPadding : {T : Type 0} → Result T Fault → Type 0
NotPadding (Ok x) = Unit {0}
NotPadding (Err Length) = Unit {0}
NotPadding (Err Padding) = ⊥
NotPadding (Err Value) = Unit {0}

-- a test, and a fault of length where it fails
pub if_passed : {T : Type 0} (b : Bool) (t : T) → NotPadding (cond b (Ok t) (Err Length))
if_passed true t = tt
if_passed false t = tt

-- a test, and a fault of length where it holds
pub if_not_refused : {T : Type 0} (b : Bool) (t : T) → NotPadding (cond b (Err Length) (Ok t))
if_not_refused true t = tt
if_not_refused false t = tt

-- what one side or the other of a test gives
pub either : {T : Type 0} (b : Bool) (r s : Result T Fault) → NotPadding r → NotPadding s
    → NotPadding (cond b r s)
either true r s p q = p
either false r s p q = q

pub mapped : {A B : Type 0} (f : A → B) (r : Result A Fault) → NotPadding r
    → NotPadding (map_ok f r)
mapped f (Ok x) h = tt
mapped f (Err Length) h = tt
mapped f (Err Padding) h = absurd h
mapped f (Err Value) h = tt

-- any value has a meaning
pub ok_unpadded : {T : Type 0} (tree : List ℕ → T) → Unpadded (plain (λ v. Ok (tree v)))
ok_unpadded tree v n e = let h = e.0 in cc

pub listed_unpadded : {T U : Type 0} (rule : List ℕ → Bool) (at : ℕ) (level : Level U)
    (tree_of : List ℕ → List U → T) → IgnoresPadding level → Unpadded (listed rule at level tree_of)
listed_unpadded rule at level tree_of ignores v n (inl f) =
    absurd (let is : Padding ≡ Length = ap (λ (x : Fault × ℕ). x.0) f.1 in cc)
listed_unpadded rule at level tree_of ignores v n (inr f) = ignores _ f.1.0.1
    (subst (λ (e : Fault). HasFault level (drop at v) (e, f.1.0.1))
    (ap (λ (x : Fault × ℕ). x.0) (sym f.1.2)) f.1.1)

-- ---- lists

front_unpadded : {T : Type 0} (level : Level T) → ((size : ℕ) (there : List ℕ)
    → level.padding size there ≡ true) → ((first second : ℕ) → Unpadded (level.row first second))
    → (rest : List ℕ) (n : ℕ) → BeginsWithFault level rest (Padding, n) → ⊥
front_unpadded level accepts rows rest n (no_frame _ _ e) =
    absurd (let is : Padding ≡ Length = ap (λ (x : Fault × ℕ). x.0) e in cc)
front_unpadded level accepts rows rest n (value _ f) = rows _ _ _ n f
front_unpadded level accepts rows rest n (padding _ _ _ refused _) = let both : true ≡ false =
    sym (accepts _ _) ∙ refused in absurd cc

pub list_unpadded : {T : Type 0} (level : Level T) → ((size : ℕ) (there : List ℕ)
    → level.padding size there ≡ true) → ((first second : ℕ) → Unpadded (level.row first second))
    → IgnoresPadding level
list_unpadded level accepts rows bytes n f = front_unpadded level accepts rows f.rest f.first.1
    (subst (λ (e : Fault). BeginsWithFault level f.rest (e, f.first.1))
    (ap (λ (x : Fault × ℕ). x.0) (sym f.place)) f.fault)
