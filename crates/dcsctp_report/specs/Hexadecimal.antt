-- Bytes in hexadecimal: two digits for each.
use Rattle.std.specs.{Prelude.{◌/◌, ◌%◌, false, ℕ, List, [], ◌∷◌}, Int.{IsInRange}, List.{flat_map}, Fmt.{digit_glyph}}

abbrev pub two_digits : ℕ → List ℕ
two_digits byte = digit_glyph false (byte / 16) ∷ digit_glyph false (byte % 16) ∷ []

abbrev pub digits_of : List ℕ → List ℕ
digits_of bytes = flat_map two_digits bytes

-- printable ASCII
abbrev pub IsPrintable : ℕ → Type 0
IsPrintable byte = IsInRange 0x20 0x7E byte
