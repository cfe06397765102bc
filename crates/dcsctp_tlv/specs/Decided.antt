-- That what a list of bytes means is decided: by the bytes alone, and always.
use Rattle.std.specs.Prelude.{◌≡◌, ◌⊎◌, ℕ, List}
use Rattle.dcsctp_tlv.specs.{Fault.{Fault, Padding}, Number.{AreBytes}, Frame.{Item, PaddingRule, AreItems}, Level.{Row, Level, MeansTrees, HasFault}}

-- a list of bytes is split into items in one way, or not at all
abbrev pub SplitsOneWay : PaddingRule → Type 0
SplitsOneWay rule =
    (bytes : List ℕ) (is js : List Item) → AreItems rule bytes is → AreItems rule bytes js
    → is ≡ js

-- Each value means one tree or has one fault, at one place: never two of either, never both, and
-- never neither.
pub record LawfulRow {T : Type 0} (row : Row T) : Type 0 where
  pub one : (v : List ℕ) (s t : T) → row.means v s → row.means v t → s ≡ t
  pub same : (v : List ℕ) (d e : Fault × ℕ) → AreBytes v → row.faults v d → row.faults v e → d ≡ e
  pub apart : (v : List ℕ) (t : T) (e : Fault × ℕ) → AreBytes v → row.means v t → ¬ row.faults v e
  pub some : (v : List ℕ) → AreBytes v
      → ((t : T) × row.means v t) ⊎ ((e : Fault × ℕ) × row.faults v e)

-- Each list of bytes means one list of trees or has one fault, at one place, and so does each value
-- in it: never two of either, never both, and never neither.
pub record IsDecided {T : Type 0} (level : Level T) : Type 0 where
  pub row : (first second : ℕ) → LawfulRow (level.row first second)
  pub meaning : (bytes : List ℕ) (ts us : List T) → MeansTrees level bytes ts
      → MeansTrees level bytes us → ts ≡ us
  pub fault : (bytes : List ℕ) (d e : Fault × ℕ) → AreBytes bytes → HasFault level bytes d
      → HasFault level bytes e → d ≡ e
  pub apart : (bytes : List ℕ) (ts : List T) (e : Fault × ℕ) → AreBytes bytes
      → MeansTrees level bytes ts → ¬ HasFault level bytes e
  pub either : (bytes : List ℕ) → AreBytes bytes
      → ((ts : List T) × MeansTrees level bytes ts) ⊎ ((e : Fault × ℕ) × HasFault level bytes e)

-- no list of bytes is refused for its padding
abbrev pub IgnoresPadding : {T : Type 0} → Level T → Type 0
IgnoresPadding level = (bytes : List ℕ) (n : ℕ) → ¬ HasFault level bytes (Padding, n)
