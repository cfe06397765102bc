-- Tables of types, as RFC 9260 sections 3.2, 3.2.1 and 3.3.10 list them: a row for each type that
-- is named, and one for all others.
use Rattle.std.specs.Prelude.{◌≡◌, ◌≢◌, ◌⊎◌, if◌then◌else◌, ℕ, Bool, true, false, List, [], ◌∷◌, ◌==◌, drop}
use Rattle.dcsctp_tlv.specs.Level.{Row, if_row}

infixr 20 ◌&◌
-- What the values of a kind hold: numbers at fixed places alone; any number of bytes or numbers; a
-- text; from a place on, a list of parameters, or one of error causes. `Varied` in place of `Fixed`
-- weakens only `memory` and `heap`: these clauses then let the kind's reader return `OutOfMemory`.
pub data Content : Type 0 where
  Fixed : Content
  Varied : Content
  Text : Content
  Parameters : ℕ → Content
  Causes : ℕ → Content

-- a type, what its values hold, and what they mean
pub record Named (T : Type 0) : Type 1 where
  pub typ : ℕ
  pub content : Content
  pub row : Row T

-- one thing for each kind, one after the other, with `tt` at the end
abbrev pub ◌&◌ : {A B : Type 0} → A → B → A × B
a & b = (a, b)

-- the row of a type: the first that names it, else that of all others
abbrev pub row_of : {T : Type 0} → List (Named T) → ℕ → Row T → Row T
row_of [] typ others = others
row_of (kind ∷ kinds) typ others = if_row (typ == kind.typ) kind.row (row_of kinds typ others)

-- a type that the table doesn't name
abbrev pub IsUnnamed : {T : Type 0} → List (Named T) → ℕ → Type 0
IsUnnamed [] typ = Unit {0}
IsUnnamed (kind ∷ kinds) typ = (typ ≢ kind.typ) × IsUnnamed kinds typ

-- ---- facts by type

-- nothing on the heap
abbrev pub is_fixed : Content → Bool
is_fixed Fixed = true
is_fixed c = false

abbrev pub is_text : Content → Bool
is_text Text = true
is_text c = false

abbrev pub has_causes : Content → Bool
has_causes (Causes place) = true
has_causes c = false

-- the types of those kinds whose content is of a sort
abbrev pub types_where : {T : Type 0} → (Content → Bool) → List (Named T) → List ℕ
types_where has [] = []
types_where has (kind ∷ kinds) =
    if has kind.content then kind.typ ∷ types_where has kinds else types_where has kinds

abbrev pub IsOneOf : List ℕ → ℕ → Type 0
IsOneOf [] n = ⊥
IsOneOf (x ∷ []) n = n ≡ x
IsOneOf (x ∷ y ∷ ys) n = (n ≡ x) ⊎ IsOneOf (y ∷ ys) n

-- the value has a list, and no item in it
abbrev pub IsEmptyList : Content → List ℕ → Type 0
IsEmptyList (Parameters place) value = drop place value ≡ []
IsEmptyList (Causes place) value = drop place value ≡ []
IsEmptyList c value = ⊥

-- the value of the type is such a one
abbrev pub HasEmptyList : {T : Type 0} → List (Named T) → ℕ → List ℕ → Type 0
HasEmptyList [] typ value = ⊥
HasEmptyList (kind ∷ kinds) typ value =
    ((typ ≡ kind.typ) × IsEmptyList kind.content value) ⊎ HasEmptyList kinds typ value
