-- The item at the front of bytes that mean a list, to a reader that takes one after the other: of
-- chunks, of parameters and of error causes alike (RFC 9260 sections 3.2, 3.2.1 and 3.3.10).
use Rattle.std.specs.Prelude.{◌≡◌, ◌≤◌, ◌+◌, ℕ, List, [], ◌∷◌, Option, Some, None, length}
use Rattle.dcsctp_tlv.specs.{Frame.{BeginsWithFrame, frame_value, frame_rest}, Level.{Row, Level, MeansTrees, MeansSome}, Number.{number16}, declared.parameter.raw_parameter.RawParameter.{RawParameter}}

-- ---- the next item

-- Of these trees the value means the first, and the bytes that are left mean the others.
pub record MeansFirst {T : Type 0} (level : Level T) (row : Row T) (value left : List ℕ)
    (all : List T) : Type 0 where
  pub first : T
  pub others : List T
  pub split : all ≡ first ∷ others
  pub means : row.means value first
  pub mean : MeansTrees level left others

-- The value is that of the frame at the front, and what follows its padding is left. Whatever trees
-- the bytes mean, the value means the first of them.
pub record IsFront {T : Type 0} (level : Level T) (bytes : List ℕ) (row : Row T)
    (value left : List ℕ) : Type 0 where
  pub frame : BeginsWithFrame bytes
  pub value_is : value ≡ frame_value bytes
  pub rest : left ≡ frame_rest bytes
  pub size : 4 + length value + length left ≤ length bytes
  pub means : (all : List T) → MeansTrees level bytes all → MeansFirst level row value left all

-- No bytes are left, which mean no tree.
pub record IsAtEnd {T : Type 0} (level : Level T) (bytes left : List ℕ) : Type 0 where
  pub none : bytes ≡ []
  pub stays : left ≡ []
  pub means : (all : List T) → MeansTrees level bytes all → all ≡ []

-- The next parameter or error cause of the bytes, and those that are left; nothing if and only if
-- there are none. The row is that of its type.
abbrev pub GivesNextTyped : {T : Type 0} → Level T → (ℕ → Row T) → List ℕ → Option RawParameter
    → List ℕ → Type 0
GivesNextTyped level row bytes (Some raw) left =
    (raw.typ ≡ number16 bytes) × IsFront level bytes (row raw.typ) raw.value.now left
GivesNextTyped level row bytes None left = IsAtEnd level bytes left

-- ---- the list in a chunk's value

-- The bytes where the list lies, if the value has a place for one, where they mean a list; nothing
-- if and only if there is no such place, or its bytes mean no list.
abbrev pub GivesList : {T : Type 0} → Level T → Option (List ℕ) → Option (List ℕ) → Type 0
GivesList level place (Some bytes) = (place ≡ Some bytes) × MeansSome level bytes
GivesList level place None = (bytes : List ℕ) → place ≡ Some bytes → ¬ MeansSome level bytes

-- The bytes mean these trees; or there are neither.
abbrev pub MeansList : {T : Type 0} → Level T → Option (List ℕ) → Option (List T) → Type 0
MeansList level (Some bytes) (Some trees) = MeansTrees level bytes trees
MeansList level None None = Unit {0}
MeansList level (Some bytes) None = ⊥
MeansList level None (Some trees) = ⊥
