-- Bytes written in hexadecimal digits.
use Rattle.std.specs.Prelude.{◌≡◌, ◌+◌, ◌*◌, ◌==◌, ℕ, Bool, ◌||◌, List, [], ◌∷◌, ◌++◌, IsTrue}
use Rattle.std.specs.Char.{is_ascii_hexdigit, digit_value}

-- a space, a tab, or a carriage return
abbrev pub is_blank : ℕ → Bool
is_blank byte = byte == 32 || byte == 9 || byte == 13

-- A text says bytes: two digits a byte, of either case, with blanks anywhere but in a byte.
pub data Says : List ℕ → List ℕ → Type 0 where
  none : Says [] []
  blank : (b : ℕ) (text bytes : List ℕ) → IsTrue (is_blank b) → Says text bytes
      → Says (b ∷ text) bytes
  byte : (high low : ℕ) (text bytes : List ℕ) → IsTrue (is_ascii_hexdigit high)
      → IsTrue (is_ascii_hexdigit low) → Says text bytes
      → Says (high ∷ low ∷ text) ((16 * digit_value high + digit_value low) ∷ bytes)

-- what the second text says is what the first says, after these bytes
abbrev pub Continues : List ℕ → List ℕ → List ℕ → Type 0
Continues text said rest = (bytes : List ℕ) → Says rest bytes → Says text (said ++ bytes)

-- the bytes that a text says were appended
pub record AreAppended (text old new : List ℕ) : Type 0 where
  pub bytes : List ℕ
  pub says : Says text bytes
  pub appended : new ≡ old ++ bytes
