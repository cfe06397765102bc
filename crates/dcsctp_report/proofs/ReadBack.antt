-- What is printed of bytes, and which bytes it was printed of.
use Rattle.std.proofs.Common.{◌≡◌, ℕ, zero, suc, ◌+◌, ◌/◌, ◌%◌, ◌≤◌, ◌<◌, Bool, true, false, ◌&&◌, inl, inr, List, [], ◌∷◌, ◌++◌, length, drop, refl, sym, ap, subst, ◌∙◌, length-append, drop_at, arith}
use Rattle.std.proofs.lemmas.Str.{encode_same, encode_ascii, length-encode, len_utf8_bounds}
use Rattle.std.proofs.lemmas.Bool.{and_parts, cases_eq}
use Rattle.std.proofs.lemmas.Bool.Decides.{nat_tests}
use Rattle.std.proofs.lemmas.List.Elements.{All-cons, All-nil}
use Rattle.std.specs.{Prelude.{All}, Char.{digit_value}, Fmt.{digit_glyph}}
use lib.Utf8.{encode, encodes}
use Rattle.dcsctp_tlv.specs.Number.{AreBytes}
use Rattle.dcsctp_report.specs.Printed.{BeginsWithShown, IsPrinted, none, shown, escaped, escape, is_shown, IsPlain, shown_size, printed}
use Rattle.std.proofs.lemmas.List.{get_or-drop}
use Rattle.dcsctp_report.proofs.JsonStrings.{value_of_glyph}
use Rattle.dcsctp_report.proofs.PrintedTexts.{printed_shown, printed_escaped}
use Rattle.dcsctp_report.proofs.ShownFronts.{shown_front, no_front}

-- ---- the function prints it

step : (is_word : Bool) (bytes : List ℕ) (fuel : ℕ) → length bytes ≤ suc fuel
    → ((others : List ℕ) → length others ≤ fuel → IsPrinted is_word others (printed is_word others))
    → (n : ℕ) → shown_size is_word bytes ≡ n → 0 < length bytes
    → IsPrinted is_word bytes (printed is_word bytes)
step is_word [] fuel small before n is some = absurd (omega arith)
step is_word (byte ∷ rest) fuel small before zero is some =
    escaped _ _ rest (printed is_word rest) byte (no_front is_word (byte ∷ rest) is) (before rest
    (omega arith))
    refl (printed_escaped is_word (byte ∷ rest) is some)
step is_word (byte ∷ rest) fuel small before (suc n) is some =
    let f = shown_front is_word (byte ∷ rest) (suc n) is (omega arith) in
    let c = f.begins.character in
    let less : length f.begins.rest ≤ fuel =
    omega (arith, ap length f.begins.front, length-append (encode c) f.begins.rest, length-encode c, len_utf8_bounds c) in
    shown _ _ (printed is_word f.begins.rest) f.begins (before f.begins.rest less)
    (printed_shown is_word (byte ∷ rest) (suc n) is (omega arith) f.inside
    ∙ ap (λ l. l ++ printed is_word (drop (suc n) (byte ∷ rest))) f.taken
    ∙ ap (λ l. encode c ++ printed is_word l) f.left)

printed_within : (fuel : ℕ) (is_word : Bool) (bytes : List ℕ) → length bytes ≤ fuel
    → IsPrinted is_word bytes (printed is_word bytes)
printed_within fuel is_word [] small = none _ _ refl refl
printed_within zero is_word (byte ∷ rest) small = absurd (omega arith)
printed_within (suc fuel) is_word (byte ∷ rest) small =
    step is_word (byte ∷ rest) fuel small (printed_within fuel is_word) (shown_size is_word
    (byte ∷ rest)) refl (omega arith)

pub is_printed : (is_word : Bool) (bytes : List ℕ) → IsPrinted is_word bytes (printed is_word bytes)
is_printed is_word bytes = printed_within (length bytes) is_word bytes (omega arith)

-- ---- it is printed of these bytes alone

no_backslash : (is_word : Bool) (c : ℕ) → is_shown is_word c ≡ true → 0x5C ≡ c → ⊥
no_backslash is_word c ok same =
    let shown_too : is_shown is_word 0x5C ≡ true =
    subst (λ z. is_shown is_word z ≡ true) (sym same) ok in
    cc shown_too

not_empty : (c : ℕ) (others : List ℕ) → [] ≡ encode c ++ others → ⊥
not_empty c others same =
    omega (arith, ap length same, length-append (encode c) others, length-encode c, len_utf8_bounds c)

no_escape : (is_word : Bool) (bytes others rest : List ℕ) (b : BeginsWithShown is_word bytes)
    (byte : ℕ)
    → encode b.character ++ others ≡ escape byte ++ rest → ⊥
no_escape is_word bytes others rest b byte same =
    let tail = drop 1 (escape byte ++ rest) in
    no_backslash is_word b.character b.shown
    (sym (encode_same b.character 0x5C others tail
    (same ∙ ap (λ l. l ++ tail) (sym (encode_ascii 0x5C (omega arith))))).0)

same_byte : (x y : ℕ) (xs ys : List ℕ) → x < 256 → y < 256 → escape x ++ xs ≡ escape y ++ ys
    → (x ≡ y) × (xs ≡ ys)
same_byte x y xs ys x_fits y_fits same =
    let high : digit_glyph false (x / 16) ≡ digit_glyph false (y / 16) = cc same in
    let low : digit_glyph false (x % 16) ≡ digit_glyph false (y % 16) = cc same in
    let left : xs ≡ ys = cc same in
    let highs = sym (value_of_glyph (x / 16) (omega arith)) ∙ ap digit_value high
    ∙ value_of_glyph (y / 16) (omega arith) in
    let lows = sym (value_of_glyph (x % 16) (omega arith)) ∙ ap digit_value low
    ∙ value_of_glyph (y % 16) (omega arith) in
    (omega (arith, highs, lows), left)

left_bytes : (bytes front rest : List ℕ) → AreBytes bytes → bytes ≡ front ++ rest → AreBytes rest
left_bytes bytes front rest fits split =
    subst AreBytes (ap (drop (length front)) split ∙ drop_at front rest (length front) refl)
    (λ i. rw (get_or-drop (length front) bytes i 0) (fits (length front + i)))

pub one_reading : (is_word : Bool) (a b t u : List ℕ) → IsPrinted is_word a t
    → IsPrinted is_word b u
    → AreBytes a → AreBytes b → t ≡ u → a ≡ b
one_reading is_word a b t u (none _ _ ends _) (none _ _ ends_too _) fits fits_too same = ends
    ∙ sym ends_too
one_reading is_word a b t u (none _ _ _ empty) (shown _ _ others begins rest is) fits fits_too same
    =
    absurd (not_empty begins.character others (sym empty ∙ same ∙ is))
one_reading is_word a b t u (none _ _ _ empty) (escaped _ _ rest others byte lacks inner split is)
    fits fits_too same =
    absurd (omega (arith, ap length (sym empty ∙ same ∙ is)))
one_reading is_word a b t u (shown _ _ others begins rest is)
    (none _ _ _ empty) fits fits_too same =
    absurd (not_empty begins.character others (sym empty ∙ sym same ∙ is))
one_reading is_word a b t u (escaped _ _ rest others byte lacks inner split is)
    (none _ _ _ empty) fits fits_too same =
    absurd (omega (arith, ap length (sym empty ∙ sym same ∙ is)))
one_reading is_word a b t u (shown _ _ others begins rest is)
    (escaped _ _ left more byte lacks inner split is_too) fits fits_too same =
    absurd (no_escape is_word a others more begins byte (sym is ∙ same ∙ is_too))
one_reading is_word a b t u (escaped _ _ left more byte lacks inner split is_too)
    (shown _ _ others begins rest is) fits fits_too same =
    absurd (no_escape is_word b others more begins byte (sym is ∙ sym same ∙ is_too))
one_reading is_word a b t u (shown _ _ others begins inner is)
    (shown _ _ more begins_too inner_too is_too) fits fits_too same =
    let both = encode_same begins.character begins_too.character others more (sym is ∙ same
    ∙ is_too) in
    let rests = one_reading is_word begins.rest begins_too.rest others more inner inner_too
    (left_bytes a (encode begins.character) begins.rest fits begins.front)
    (left_bytes b (encode begins_too.character) begins_too.rest fits_too begins_too.front) both.1 in
    begins.front ∙ ap (λ c. encode c ++ begins.rest) both.0
    ∙ ap (λ l. encode begins_too.character ++ l) rests ∙ sym begins_too.front
one_reading is_word a b t u (escaped _ _ rest others x lacks inner split is)
    (escaped _ _ left more y lacks_too inner_too split_too is_too) fits fits_too same =
    let x_fits : x < 256 = rw split at (fits 0) in
    let y_fits : y < 256 = rw split_too at (fits_too 0) in
    let both = same_byte x y others more x_fits y_fits (sym is ∙ same ∙ is_too) in
    let rests = one_reading is_word rest left others more inner inner_too
    (left_bytes a (x ∷ []) rest fits split) (left_bytes b
    (y ∷ []) left fits_too split_too) both.1 in
    split ∙ ap (λ z. z ∷ rest) both.0 ∙ ap (λ l. y ∷ l) rests ∙ sym split_too

-- ---- its characters

abbrev glyphs_shown : Bool → ℕ → Bool
glyphs_shown is_word zero = true
glyphs_shown is_word (suc n) = is_shown is_word (digit_glyph false n) && glyphs_shown is_word n

glyph_shown : (is_word : Bool) (n : ℕ) → glyphs_shown is_word n ≡ true → (d : ℕ) → d < n
    → is_shown is_word (digit_glyph false d) ≡ true
glyph_shown is_word zero all d h = absurd (omega arith)
glyph_shown is_word (suc n) all d h =
    let p = and_parts (is_shown is_word (digit_glyph false n)) (glyphs_shown is_word n) all in
    elim (cases_eq d n) [
      | inl same ↦ rw same p.0
      | inr other ↦ glyph_shown is_word n p.1 d
          (omega arith)
    ]

-- characters of these bytes, each plain
abbrev PlainText : Bool → List ℕ → Type 0
PlainText is_word text = (cs : List ℕ) × (encodes cs ≡ text) × All (IsPlain is_word) cs

more_plain : (is_word : Bool) (c : ℕ) (text : List ℕ) → c < 128 → IsPlain is_word c
    → PlainText is_word text
    → PlainText is_word (c ∷ text)
more_plain is_word c text small plain t = (
  c ∷ t.0,
  ap (λ l. l ++ encodes t.0) (encode_ascii c small) ∙ ap (λ l. c ∷ l) t.1,
  All-cons (IsPlain is_word) c t.0 plain t.2,
)

glyph_ascii : (d : ℕ) → d < 16 → digit_glyph false d < 128
glyph_ascii d h = grind (arith, nat_tests)

pub plain_text : (is_word : Bool) (bytes text : List ℕ) → AreBytes bytes
    → IsPrinted is_word bytes text
    → PlainText is_word text
plain_text is_word bytes text fits (none _ _ ends empty) =
    ([], sym empty, All-nil (IsPlain is_word))
plain_text is_word bytes text fits (shown _ _ others begins inner is) =
    let t = plain_text is_word begins.rest others
    (left_bytes bytes (encode begins.character) begins.rest fits begins.front) inner in (
      begins.character ∷ t.0,
      ap (λ l. encode begins.character ++ l) t.1 ∙ sym is,
      All-cons (IsPlain is_word) begins.character t.0 (inl begins.shown) t.2,
    )
plain_text is_word bytes text fits (escaped _ _ rest others byte lacks inner split is) =
    let byte_fits : byte < 256 = rw split at (fits 0) in
    let t = plain_text is_word rest others (left_bytes bytes (byte ∷ []) rest fits split) inner in
    let glyph : (d : ℕ) → d < 16 → IsPlain is_word (digit_glyph false d) =
    λ d small. inl (glyph_shown is_word 16 refl d small) in
    subst (PlainText is_word) (sym is)
    (more_plain is_word 0x5C _ (omega arith) (inr refl)
    (more_plain is_word 0x78 _ (omega arith) (inl refl)
    (more_plain is_word _ _ (glyph_ascii (byte / 16) (omega arith)) (glyph (byte / 16)
    (omega arith))
    (more_plain is_word _ _ (glyph_ascii (byte % 16) (omega arith)) (glyph (byte % 16)
    (omega arith)) t))))
