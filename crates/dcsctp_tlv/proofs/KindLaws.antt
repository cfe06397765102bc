-- What a kind has to satisfy for the laws of its level, where its value is read at fixed places.
use Rattle.std.proofs.Common.{◌≡◌, ℕ, ◌+◌, Bool, true, false, cond, ◌⊎◌, inl, inr, List, length, Result, Ok, Err, refl}
use Rattle.dcsctp_tlv.{specs.Fault.{Fault}, specs.Level.{map_ok}, specs.Format.{Format}, specs.Image.{zeroed, size_of, IsEncodable}, proofs.Unpadded.{NotPadding}}

-- a tree that can be written and read again, by its format
pub record IsGood (format : Format) : Type 0 where
  pub width : format.IsInWidth
  pub formed : format.IsWellFormed
  pub encodable : IsEncodable format.tlv

-- A value as it is read, after the item's first two bytes; and what its format says of its tree.
pub record KindLaws {T : Type 0} (IsKept : List ℕ → Type 0)
    (read : ℕ → ℕ → List ℕ → Result T Fault) (format : T → Format) : Type 0 where
  -- what is written is read again
  pub back : (t : T) → IsGood (format t)
      → read (format t).tlv.first (format t).tlv.second (zeroed (format t).tlv.value) ≡ Ok t
  -- what is read is well-formed
  pub formed : (first second : ℕ) (value : List ℕ) (t : T) → read first second value ≡ Ok t
      → (format t).IsWellFormed
  -- its fault, if any, isn't that of padding
  pub unpadded : (first second : ℕ) (value : List ℕ) → NotPadding (read first second value)
  -- what is read is written with the size that it was read from, where the value is kept
  pub keeps : (first second : ℕ) (value : List ℕ) (t : T) → IsKept value
      → read first second value ≡ Ok t → size_of (format t).tlv ≡ 4 + length value

-- ---- a kind of parameter or cause, which has one type: its value alone is read

abbrev pub by_value : {T : Type 0} → (List ℕ → Result T Fault) → ℕ → ℕ → List ℕ → Result T Fault
by_value read first second value = read value

-- ---- what was read

abbrev ok_of : {T : Type 0} → T → Result T Fault
ok_of x = Ok x

pub of_ok : {T : Type 0} (x y : T) → ok_of x ≡ Ok y → x ≡ y
of_ok x y e = cc

-- the tree under a tree of the level
pub of_map_ok : {A B : Type 0} (f : A → B) (r : Result A Fault) (y : B) → map_ok f r ≡ Ok y
    → (x : A) × ((r ≡ Ok x) × (y ≡ f x))
of_map_ok f (Ok x) y e = (x, (refl, cc))
of_map_ok f (Err d) y e = absurd cc

-- the side that a test took
pub chosen : {A : Type 0} (b : Bool) (x y z : A) → cond b x y ≡ z → ((b ≡ true) × (x ≡ z))
    ⊎ ((b ≡ false) × (y ≡ z))
chosen true x y z e = inl (refl, e)
chosen false x y z e = inr (refl, e)

-- a test, and a fault where it fails: what was read passed it
pub passed : {T : Type 0} (b : Bool) (r : Result T Fault) (e : Fault) (t : T)
    → cond b r (Err e) ≡ Ok t → (b ≡ true) × (r ≡ Ok t)
passed true r e t h = (refl, h)
passed false r e t h = absurd cc

-- a test, and a fault where it holds: what was read failed it
pub not_refused : {T : Type 0} (b : Bool) (r : Result T Fault) (e : Fault) (t : T)
    → cond b (Err e) r ≡ Ok t → (b ≡ false) × (r ≡ Ok t)
not_refused false r e t h = (refl, h)
not_refused true r e t h = absurd cc
