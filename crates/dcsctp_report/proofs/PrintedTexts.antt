-- What is printed of a text, character by character.
use Rattle.std.proofs.Common.{◌≡◌, ℕ, zero, suc, ◌+◌, ◌-◌, ◌/◌, ◌%◌, ◌≤◌, ◌<◌, Bool, false, cond, List, [], ◌∷◌, ◌++◌, length, take, drop, get_or, refl, sym, ap, subst, ◌∙◌, append_assoc, arith}
use Rattle.std.specs.{Prelude.{◌==◌, IsUtf8}, Fmt.{digit_glyph}}
use Rattle.std.proofs.lemmas.Bool.Decides.{nat_tests}
use Rattle.std.proofs.lemmas.{List.{drop-drop, get_or-drop, length-drop}, List.Elements.{All-nil, All-cons}}
use Rattle.std.proofs.lemmas.{Str.{IsUtf8-append, IsUtf8-encode, IsUtf8-from_ascii}, Str.Ascii.{IsAscii-from_all}}
use Rattle.dcsctp_report.specs.Printed.{escape, shown_size, printed, printed_after}
use Rattle.dcsctp_report.proofs.ShownFronts.{shown_front}

printed_first : (is_word : Bool) (n : ℕ) (bytes : List ℕ) → n ≤ length bytes
    → printed_after is_word n bytes ≡ take n bytes ++ printed is_word (drop n bytes)
printed_first is_word zero bytes h = refl
printed_first is_word (suc n) [] h = absurd (omega arith)
printed_first is_word (suc n) (byte ∷ rest) h = ap (λ l. byte ∷ l) (printed_first is_word n rest
    (omega arith))

-- by the size of the character at the front
printed_by : (is_word : Bool) (byte : ℕ) (rest : List ℕ) (n : ℕ) → shown_size is_word (byte ∷ rest)
    ≡ n
    → printed is_word (byte ∷ rest)
    ≡ cond (n == 0) (escape byte ++ printed is_word rest) (byte ∷ printed_after is_word
    (n - 1) rest)
printed_by is_word byte rest n is =
    ap (λ (k : ℕ). cond (k == 0) (escape byte ++ printed is_word rest) (byte ∷ printed_after is_word
    (k - 1) rest)) is

pub printed_shown : (is_word : Bool) (bytes : List ℕ) (n : ℕ) → shown_size is_word bytes ≡ n → 0 < n
    → n ≤ length bytes
    → printed is_word bytes ≡ take n bytes ++ printed is_word (drop n bytes)
printed_shown is_word [] n is some h = absurd (omega arith)
printed_shown is_word (byte ∷ rest) zero is some h = absurd (omega arith)
printed_shown is_word (byte ∷ rest) (suc n) is some h =
    let other : (suc n == 0) ≡ false = grind (arith, nat_tests) in
    let less : suc n - 1 ≡ n = omega arith in
    printed_by is_word byte rest (suc n) is
    ∙ ap (λ b. cond b (escape byte ++ printed is_word rest) (byte ∷ printed_after is_word
    (suc n - 1) rest)) other
    ∙ ap (λ k. byte ∷ printed_after is_word k rest) less
    ∙ ap (λ l. byte ∷ l) (printed_first is_word n rest (omega arith))

pub printed_escaped : (is_word : Bool) (bytes : List ℕ) → shown_size is_word bytes ≡ 0
    → 0 < length bytes
    → printed is_word bytes ≡ escape (get_or bytes 0 0) ++ printed is_word (drop 1 bytes)
printed_escaped is_word [] is some = absurd (omega arith)
printed_escaped is_word (byte ∷ rest) is some = printed_by is_word byte rest 0 is

-- a character more in a block
pub more_shown : (is_word : Bool) (bytes block new all : List ℕ) (at filled n : ℕ)
    → n ≡ shown_size is_word (drop at bytes) → 0 < n → n ≤ length (drop at bytes)
    → take (filled + n) new ≡ take filled block ++ take n (drop at bytes)
    → take filled block ++ printed is_word (drop at bytes) ≡ all
    → take (filled + n) new ++ printed is_word (drop (at + n) bytes) ≡ all
more_shown is_word bytes block new all at filled n is some inside put so_far =
    ap (λ l. l ++ printed is_word (drop (at + n) bytes)) put
    ∙ append_assoc (take filled block) (take n (drop at bytes)) (printed is_word (drop
    (at + n) bytes))
    ∙ ap (λ l. take filled block ++ (take n (drop at bytes) ++ printed is_word l)) (sym
    (drop-drop n at bytes))
    ∙ ap (λ l. take filled block ++ l) (sym (printed_shown is_word (drop at bytes) n
    (sym is) some inside))
    ∙ so_far

pub more_escaped : (is_word : Bool) (bytes block new all : List ℕ) (at filled : ℕ)
    → 0 ≡ shown_size is_word (drop at bytes) → at < length bytes
    → take (filled + 4) new ≡ take filled block ++ escape (get_or bytes at 0)
    → take filled block ++ printed is_word (drop at bytes) ≡ all
    → take (filled + 4) new ++ printed is_word (drop (at + 1) bytes) ≡ all
more_escaped is_word bytes block new all at filled is inside put so_far =
    let here : at + 0 ≡ at = omega arith in
    let left : 0 < length (drop at bytes) = omega (arith, length-drop at bytes) in
    ap (λ l. l ++ printed is_word (drop (at + 1) bytes)) put
    ∙ append_assoc (take filled block) (escape (get_or bytes at 0)) (printed is_word (drop
    (at + 1) bytes))
    ∙ ap (λ l. take filled block ++ l)
    (sym (printed_escaped is_word (drop at bytes) (sym is) left
    ∙ ap (λ b. escape b ++ printed is_word (drop 1 (drop at bytes)))
    (get_or-drop at bytes 0 0 ∙ ap (λ k. get_or bytes k 0) here)
    ∙ ap (λ l. escape (get_or bytes at 0) ++ printed is_word l) (drop-drop 1 at bytes)))
    ∙ so_far

-- ---- a block is UTF-8

pub more_text : (block new piece : List ℕ) (filled n : ℕ) → take n new ≡ take filled block ++ piece
    → IsUtf8 (take filled block) → IsUtf8 piece → IsUtf8 (take n new)
more_text block new piece filled n put front back =
    subst IsUtf8 (sym put) (IsUtf8-append (take filled block) piece front back)

pub shown_text : (is_word : Bool) (bytes : List ℕ) (n : ℕ) → n ≡ shown_size is_word bytes → 0 < n
    → IsUtf8 (take n bytes)
shown_text is_word bytes n is some =
    let f = shown_front is_word bytes n (sym is) some in
    subst IsUtf8 (sym f.taken) (IsUtf8-encode f.begins.character f.begins.scalar)

digit_is_ascii : (digit : ℕ) → digit < 16 → digit_glyph false digit < 128
digit_is_ascii digit h = grind (arith, nat_tests)

pub escape_text : (byte : ℕ) → byte < 256 → IsUtf8 (escape byte)
escape_text byte fits =
    let high = digit_glyph false (byte / 16) in
    let low = digit_glyph false (byte % 16) in
    let last = All-cons (λ b. b < 128) low [] (digit_is_ascii (byte % 16) (omega arith)) (All-nil
    (λ b. b < 128)) in
    let both = All-cons (λ b. b < 128) high (low ∷ []) (digit_is_ascii (byte / 16)
    (omega arith)) last in
    let named = All-cons (λ b. b < 128) 0x78 (high ∷ low ∷ []) (omega arith) both in
    let all = All-cons (λ b. b < 128) 0x5C (0x78 ∷ high ∷ low ∷ []) (omega arith) named in
    IsUtf8-from_ascii (escape byte) (IsAscii-from_all (escape byte) all)
