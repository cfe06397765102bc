-- Strings of JSON (RFC 8259 section 7), as bytes of UTF-8 (section 8.1), and the texts that they
-- spell.
use Rattle.std.specs.{Prelude.{◌≡◌, ◌/◌, ◌%◌, ◌⊎◌, ◌==◌, ◌||◌, Bool, false, if◌then◌else◌, nat_lt, ℕ, List, [], ◌∷◌, ◌++◌, length, Option, Some, None, encode_utf8}, Char.{IsScalar}, Char.Utf16.{surrogate_pair_char}, Int.{IsInRange}, List.{flat_map}, Str.Parse.{IsNumeral, digits_value}, Fmt.{digit_glyph}}

-- unescaped = %x20-21 / %x23-5B / %x5D-10FFFF
abbrev pub IsUnescaped : ℕ → Type 0
IsUnescaped c =
    IsScalar c × (IsInRange 0x20 0x21 c ⊎ (IsInRange 0x23 0x5B c ⊎ IsInRange 0x5D 0x10_FFFF c))

-- the character of an escape of two, by the one after the backslash
abbrev pub escaped_by : ℕ → Option ℕ
escaped_by letter =
    if letter == 0x22 then Some 0x22 else
    if letter == 0x5C then Some 0x5C else
    if letter == 0x2F then Some 0x2F else
    if letter == 0x62 then Some 0x08 else
    if letter == 0x66 then Some 0x0C else
    if letter == 0x6E then Some 0x0A else
    if letter == 0x72 then Some 0x0D else
    if letter == 0x74 then Some 0x09 else None

-- the four hexadecimal digits of a number
abbrev pub AreFourDigits : List ℕ → ℕ → Type 0
AreFourDigits digits n =
    (length digits ≡ 4) × IsNumeral 16 digits × (digits_value 16 digits ≡ n)

-- `*char`: these bytes of a string spell this text
pub data Spells : List ℕ → List ℕ → Type 0 where
  none : (string text : List ℕ) → string ≡ [] → text ≡ [] → Spells string text
  unescaped : (string text rest others : List ℕ) (c : ℕ) → IsUnescaped c → Spells rest others
      → string ≡ encode_utf8 c ++ rest → text ≡ encode_utf8 c ++ others → Spells string text
  escaped : (string text rest others : List ℕ) (letter c : ℕ) → escaped_by letter ≡ Some c
      → Spells rest others → string ≡ 0x5C ∷ letter ∷ rest → text ≡ encode_utf8 c ++ others
      → Spells string text
  numbered : (string text digits rest others : List ℕ) (c : ℕ) → AreFourDigits digits c
      → IsScalar c → Spells rest others → string ≡ 0x5C ∷ 0x75 ∷ (digits ++ rest)
      → text ≡ encode_utf8 c ++ others → Spells string text
  pair : (string text high low rest others : List ℕ) (u v : ℕ) → AreFourDigits high u
      → AreFourDigits low v → IsInRange 0xD800 0xDBFF u → IsInRange 0xDC00 0xDFFF v
      → Spells rest others
      → string ≡ 0x5C ∷ 0x75 ∷ (high ++ 0x5C ∷ 0x75 ∷ (low ++ rest))
      → text ≡ encode_utf8 (surrogate_pair_char u v) ++ others → Spells string text

-- `quotation-mark *char quotation-mark`
pub record IsString (string text : List ℕ) : Type 0 where
  pub inner : List ℕ
  pub marks : string ≡ 0x22 ∷ (inner ++ 0x22 ∷ [])
  pub spells : Spells inner text

-- ---- the string that is written

-- what has to be, and U+007F
abbrev pub is_escaped : ℕ → Bool
is_escaped byte = nat_lt byte 0x20 || byte == 0x22 || byte == 0x5C || byte == 0x7F

-- Two characters for a quotation mark and a backslash, six for a control character.
abbrev pub escape : ℕ → List ℕ
escape byte =
    if byte == 0x22 || byte == 0x5C then 0x5C ∷ byte ∷ [] else
    0x5C ∷ 0x75 ∷ 0x30 ∷ 0x30 ∷ digit_glyph false (byte / 16) ∷ digit_glyph false (byte % 16) ∷ []

abbrev pub written : ℕ → List ℕ
written byte = if is_escaped byte then escape byte else byte ∷ []

abbrev pub string_of : List ℕ → List ℕ
string_of text = 0x22 ∷ (flat_map written text ++ 0x22 ∷ [])
