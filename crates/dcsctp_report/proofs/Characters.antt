-- Whether bytes are a character that is shown.
use Rattle.std.proofs.Common.{◌≡◌, ◌<◌, ℕ, Bool, true, false, List, [], ◌∷◌, ◌++◌, length, get_or, refl, sym, ap, ◌∙◌, subst, length-append, arith}
use Rattle.std.specs.{Prelude.{IsUtf8}, Str.{is_utf8, chars}}
use Rattle.std.proofs.lemmas.{List.Elements.{All-nil, All-cons}, Str.Ascii.{IsAscii-from_all}}
use Rattle.std.proofs.lemmas.Str.{IsUtf8-from_ascii, encode_ascii, IsUtf8-from_is_utf8, is_utf8-from_IsUtf8, chars-encodes, encode_same, length-encode, len_utf8_bounds}
use lib.Utf8.{encode, encodes}
use Rattle.dcsctp_report.specs.Printed.{is_shown, is_character}

not_utf8 : (b : Bool) (bytes : List ℕ) → is_utf8 bytes ≡ b → (IsUtf8 bytes → ⊥) → is_utf8 bytes
    ≡ false
not_utf8 true bytes is none = absurd (none (IsUtf8-from_is_utf8 bytes is))
not_utf8 false bytes is none = is

pub no_character : (is_word : Bool) (bytes : List ℕ) → (IsUtf8 bytes → ⊥) → false
    ≡ is_character is_word bytes
no_character is_word bytes none = rw (not_utf8 (is_utf8 bytes) bytes refl none)

first_of_encodes : (cs : List ℕ) (c : ℕ) (rest : List ℕ) → encode c ++ rest ≡ encodes cs
    → get_or cs 0 0 ≡ c
first_of_encodes [] c rest same =
    absurd (omega (arith, ap length same, length-encode c, len_utf8_bounds c, length-append (encode c) rest))
first_of_encodes (d ∷ ds) c rest same = sym (encode_same c d rest (encodes ds) same).0

pub first_character : (is_word : Bool) (bytes rest : List ℕ) (c : ℕ) → IsUtf8 bytes → bytes
    ≡ encode c ++ rest
    → is_shown is_word c ≡ is_character is_word bytes
first_character is_word bytes rest c u front =
    let first : get_or (chars bytes) 0 0 ≡ c =
    subst (λ l. get_or (chars l) 0 0 ≡ c) u.1.1
    (rw (chars-encodes u.0 u.1.0) (first_of_encodes u.0 c rest (sym front ∙ sym u.1.1))) in
    rw (is_utf8-from_IsUtf8 bytes u, first)

-- one byte of ASCII
pub ascii_character : (is_word : Bool) (bytes : List ℕ) → length bytes ≡ 1 → get_or bytes 0 0 < 128
    → is_shown is_word (get_or bytes 0 0) ≡ is_character is_word bytes
ascii_character is_word [] one low = absurd (omega (arith, one))
ascii_character is_word (byte ∷ []) one low =
    let all = All-cons (λ b. b < 128) byte [] low (All-nil (λ b. b < 128)) in
    first_character is_word (byte ∷ []) [] byte
    (IsUtf8-from_ascii (byte ∷ []) (IsAscii-from_all (byte ∷ []) all))
    (sym (ap (λ l. l ++ []) (encode_ascii byte low)))
ascii_character is_word (byte ∷ next ∷ rest) one low = absurd (omega (arith, one))
