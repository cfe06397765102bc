-- How a text of the peer is printed: the characters of its UTF-8 that are shown, and of all other
-- bytes the escapes, `\x` and two digits.
use Rattle.std.specs.{Prelude.{◌≡◌, ◌-◌, ◌/◌, ◌%◌, ◌==◌, ◌||◌, ◌&&◌, ◌⊎◌, not, Bool, true, false, if◌then◌else◌, nat_lt, nat_le, ℕ, zero, suc, List, [], ◌∷◌, ◌++◌, length, take, slice_index, encode_utf8}, Char.{IsScalar}, Int.{is_in_range}, Str.{chars, is_utf8}, Fmt.{digit_glyph}}

-- Unicode's other blanks (of the category Zs, and U+2800), and the ends of a line and a paragraph.
unfoldable pub is_blank : ℕ → Bool
is_blank c =
    c == 0xA0 || c == 0x1680 || is_in_range 0x2000 0x200A c || is_in_range 0x2028 0x2029 c
    || c == 0x202F || c == 0x205F || c == 0x2800 || c == 0x3000

-- Those of the property Default_Ignorable_Code_Point, among them the controls of the direction of
-- text (U+061C, U+200E, U+200F, U+202A to U+202E, U+2066 to U+2069), the interlinear annotations
-- (U+FFF9 to U+FFFB), and all from U+E0000 on.
unfoldable pub is_ignored : ℕ → Bool
is_ignored c =
    c == 0xAD || c == 0x034F || c == 0x061C || is_in_range 0x115F 0x1160 c
    || is_in_range 0x17B4 0x17B5 c || is_in_range 0x180B 0x180F c || is_in_range 0x200B 0x200F c
    || is_in_range 0x202A 0x202E c || is_in_range 0x2060 0x206F c || c == 0x3164
    || is_in_range 0xFE00 0xFE0F c || c == 0xFEFF || c == 0xFFA0 || is_in_range 0xFFF0 0xFFFB c
    || is_in_range 0x1_BCA0 0x1_BCA3 c || is_in_range 0x1_D173 0x1_D17A c || nat_le 0xE_0000 c

abbrev pub is_hidden : ℕ → Bool
is_hidden c = is_blank c || is_ignored c

-- A character that is printed as itself, in one word or in a text: none is a control character
-- (U+0000 to U+001F, U+007F to U+009F), a quotation mark or a backslash; in a word it is ASCII,
-- and no blank.
abbrev pub is_shown : Bool → ℕ → Bool
is_shown is_word c =
    if c == 0x22 || c == 0x5C then false else
    if is_in_range 0x21 0x7E c then true else
    if is_word then false else c == 0x20 || (nat_le 0xA0 c && not (is_hidden c))

-- the escape of a byte
abbrev pub escape : ℕ → List ℕ
escape byte =
    0x5C ∷ 0x78 ∷ digit_glyph false (byte / 16) ∷ digit_glyph false (byte % 16) ∷ []

-- the bytes begin with a character that is shown
pub record BeginsWithShown (is_word : Bool) (bytes : List ℕ) : Type 0 where
  pub character : ℕ
  pub rest : List ℕ
  pub scalar : IsScalar character
  pub shown : is_shown is_word character ≡ true
  pub front : bytes ≡ encode_utf8 character ++ rest

-- This is printed of these bytes.
pub data IsPrinted (is_word : Bool) : List ℕ → List ℕ → Type 0 where
  none : (bytes text : List ℕ) → bytes ≡ [] → text ≡ [] → IsPrinted is_word bytes text
  shown : (bytes text others : List ℕ) (b : BeginsWithShown is_word bytes)
      → IsPrinted is_word b.rest others → text ≡ encode_utf8 b.character ++ others
      → IsPrinted is_word bytes text
  escaped : (bytes text rest others : List ℕ) (byte : ℕ) → (BeginsWithShown is_word bytes → ⊥)
      → IsPrinted is_word rest others → bytes ≡ byte ∷ rest → text ≡ escape byte ++ others
      → IsPrinted is_word bytes text

-- What is printed has these characters alone: those that are shown, and the backslash of an escape.
abbrev pub IsPlain : Bool → ℕ → Type 0
IsPlain is_word c = (is_shown is_word c ≡ true) ⊎ (c ≡ 0x5C)

-- ---- as a function

-- the size of a character that begins with this byte
abbrev pub size_from : ℕ → ℕ
size_from byte =
    if nat_lt byte 0x80 then 1 else
    if nat_lt byte 0xE0 then 2 else
    if nat_lt byte 0xF0 then 3 else 4

abbrev pub is_character : Bool → List ℕ → Bool
is_character is_word bytes = is_utf8 bytes && is_shown is_word (slice_index (chars bytes) 0)

-- the size of the character at the front, if it is shown, or else 0
abbrev pub shown_size : Bool → List ℕ → ℕ
shown_size is_word bytes =
    let size = size_from (slice_index bytes 0) in
    if nat_le size (length bytes) && is_character is_word (take size bytes) then size else 0

-- what is printed, where the first `left` bytes belong to a character that is shown
abbrev pub printed_after : Bool → ℕ → List ℕ → List ℕ
printed_after is_word left [] = []
printed_after is_word (suc left) (byte ∷ rest) = byte ∷ printed_after is_word left rest
printed_after is_word zero (byte ∷ rest) =
    if shown_size is_word (byte ∷ rest) == 0 then escape byte ++ printed_after is_word 0 rest else
    byte ∷ printed_after is_word (shown_size is_word (byte ∷ rest) - 1) rest

abbrev pub printed : Bool → List ℕ → List ℕ
printed is_word bytes = printed_after is_word 0 bytes
