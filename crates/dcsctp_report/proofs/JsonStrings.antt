-- What is written of a text is a string of JSON that spells it.
use Rattle.std.proofs.Common.{◌≡◌, ◌≢◌, ℕ, zero, suc, ◌/◌, ◌%◌, ◌≤◌, ◌<◌, Bool, true, false, ◌&&◌, ◌||◌, inl, inr, List, [], ◌∷◌, ◌++◌, length, get_or, refl, sym, ap, ap₂, subst, append-nil, eqb-true, arith}
use Rattle.std.specs.{Prelude.{◌==◌, IsUtf8}, List.{flat_map}, Char.{digit_value}, Fmt.{digit_glyph}}
use Rattle.std.proofs.lemmas.Bool.{and_parts, cases_lt, cases_eq}
use Rattle.std.proofs.lemmas.Bool.Decides.{nat_tests}
use Rattle.std.proofs.lemmas.Str.{encode_ascii, inside_one}
use Rattle.std.proofs.lemmas.Grind.{flat_map-append}
use lib.Utf8.{scalar, scalars, encode, encodes, low_scalar, scalar_cases}
use Rattle.dcsctp_report.specs.JsonString.{IsUnescaped, AreFourDigits, Spells, none, unescaped, escaped, numbered, IsString, is_escaped, written, string_of}

-- ---- one byte

abbrev glyphs_below : ℕ → Bool
glyphs_below zero = true
glyphs_below (suc n) = (digit_value (digit_glyph false n) == n) && glyphs_below n

glyph_below : (n : ℕ) → glyphs_below n ≡ true → (d : ℕ) → d < n → digit_value (digit_glyph false d)
    ≡ d
glyph_below zero all d h = absurd (omega arith)
glyph_below (suc n) all d h =
    let p = and_parts _ _ all in
    let here : digit_value (digit_glyph false n) ≡ n = eqb-true _ _ p.0 in
    elim (cases_eq d n) [ inl same ↦ rw same here | inr other ↦ glyph_below n p.1 d (omega arith) ]

pub value_of_glyph : (d : ℕ) → d < 16 → digit_value (digit_glyph false d) ≡ d
value_of_glyph d h = glyph_below 16 refl d h

abbrev four : ℕ → List ℕ
four byte = 0x30 ∷ 0x30 ∷ digit_glyph false (byte / 16) ∷ digit_glyph false (byte % 16) ∷ []

four_digits : (byte : ℕ) → byte < 256 → AreFourDigits (four byte) byte
four_digits byte h =
    let high = value_of_glyph (byte / 16) (omega arith) in
    let low = value_of_glyph (byte % 16) (omega arith) in
    (refl, (omega arith, (omega arith, (omega arith, (omega (arith, high), (omega (arith, low), tt))))), omega (arith, high, low))

is_unescaped : (byte : ℕ) → byte < 128 → is_escaped byte ≡ false → IsUnescaped byte
is_unescaped byte h plain =
    let free : (0x20 ≤ byte) × (byte ≢ 0x22) × (byte ≢ 0x5C) = grind (arith, nat_tests) in
    (low_scalar byte (omega arith), grind arith)

-- ---- characters

high_same : (xs : List ℕ) → ((k : ℕ) → k < length xs → 128 ≤ get_or xs k 0) → flat_map written xs
    ≡ xs
high_same [] h = refl
high_same (x ∷ xs) h =
    let high : 128 ≤ x = h 0 (omega arith) in
    let plain : is_escaped x ≡ false = grind (arith, nat_tests) in
    let same : written x ≡ x ∷ [] = rw plain in
    ap₂ (λ (a b : List ℕ). a ++ b) same (high_same xs (λ k below. h (suc k) (omega arith)))

other_byte : (b : Bool) (byte : ℕ) (rest others : List ℕ) → is_escaped byte ≡ b → byte < 128
    → byte ≢ 0x22 → byte ≢ 0x5C → scalar byte ≡ true → Spells rest others
    → Spells (written byte ++ rest) (byte ∷ others)
other_byte true byte rest others is small no_mark no_backslash ok spelled =
    let others_too : (byte == 0x22 || byte == 0x5C) ≡ false = grind (arith, nat_tests) in
    rw (is, others_too) (numbered _ _ (four byte) rest others byte (four_digits byte
    (omega arith)) ok spelled refl
    (ap (λ l. l ++ others) (sym (encode_ascii byte small))))
other_byte false byte rest others is small no_mark no_backslash ok spelled =
    rw is (unescaped _ _ rest others byte (is_unescaped byte small is) spelled
    (ap (λ l. l ++ rest) (sym (encode_ascii byte small)))
    (ap (λ l. l ++ others) (sym (encode_ascii byte small))))

one_byte : (byte : ℕ) (rest others : List ℕ) → byte < 128 → scalar byte ≡ true → Spells rest others
    → Spells (written byte ++ rest) (byte ∷ others)
one_byte byte rest others small ok spelled = elim (cases_eq byte 0x22) [
  | inl mark ↦ rw mark (escaped _ _ rest others 0x22 0x22 refl spelled refl
      (ap (λ l. l ++ others) (sym (encode_ascii 0x22 (omega arith)))))
  | inr no_mark ↦ elim (cases_eq byte 0x5C) [
    | inl backslash ↦ rw backslash (escaped _ _ rest others 0x5C 0x5C refl spelled refl
        (ap (λ l. l ++ others) (sym (encode_ascii 0x5C (omega arith)))))
    | inr no_backslash ↦ other_byte (is_escaped byte) byte rest others refl small no_mark
        no_backslash ok spelled
  ]
]

in_range : (c : ℕ) → scalar c ≡ true → c ≤ 0x10_FFFF
in_range c ok = elim (scalar_cases c ok) [ inl low ↦ omega arith | inr high ↦ omega arith ]

one_character : (c : ℕ) (rest others : List ℕ) → scalar c ≡ true → Spells rest others
    → Spells (flat_map written (encode c) ++ rest) (encode c ++ others)
one_character c rest others ok spelled = elim (cases_lt c 128) [
  | inl small ↦
      rw (encode_ascii c small, append-nil) (one_byte c rest others small ok spelled)
  | inr big ↦
      let high : (k : ℕ) → k < length (encode c) → 128 ≤ get_or (encode c) k 0 = λ k below. elim
      (cases_lt (get_or (encode c) k 0) 128) [
        | inl low ↦ absurd (omega (arith, inside_one c [] (encode c) k (sym (append-nil _)) below low))
        | inr h ↦ h
      ] in
      rw (high_same (encode c) high) (unescaped _ _ rest others c (ok, inr (inr (omega arith, in_range c ok))) spelled refl refl)
]

pub spells : (cs : List ℕ) → scalars cs ≡ true → Spells (flat_map written (encodes cs)) (encodes cs)
spells [] ok = none _ _ refl refl
spells (c ∷ cs) ok =
    let p = and_parts _ _ ok in
    subst (λ l. Spells l (encode c ++ encodes cs)) (sym (flat_map-append written (encode c)
    (encodes cs)))
    (one_character c (flat_map written (encodes cs)) (encodes cs) p.0 (spells cs p.1))

pub is_string : (text : List ℕ) → IsUtf8 text → IsString (string_of text) text
is_string text u = record {
  inner = flat_map written text;
  marks = refl;
  spells = subst (λ l. Spells (flat_map written l) l) u.1.1 (spells u.0 u.1.0);
}
