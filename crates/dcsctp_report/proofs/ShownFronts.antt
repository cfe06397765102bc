-- The character at the front that is shown, and its size.
use Rattle.std.proofs.Common.{◌≡◌, ℕ, zero, suc, ◌≤◌, ◌<◌, Bool, true, false, cond, ◌&&◌, List, [], ◌∷◌, ◌++◌, length, get_or, take, drop, refl, sym, ap, subst, ◌∙◌, append-nil, length-append, length-take, take-append-drop, take_at, arith}
use Rattle.std.specs.Prelude.{nat_le}
use Rattle.std.specs.Str.{chars}
use Rattle.std.proofs.lemmas.Bool.{and_parts, and_from}
use Rattle.std.proofs.lemmas.Bool.Decides.{nat_tests}
use Rattle.std.proofs.lemmas.List.{nil_from_length}
use Rattle.std.proofs.lemmas.Str.{IsUtf8-from_is_utf8, IsUtf8-encode, chars-encodes}
use lib.Utf8.{scalar, scalars, encode, encodes}
use Rattle.dcsctp_report.specs.Printed.{BeginsWithShown, is_shown, is_character, shown_size, size_from}
use Rattle.dcsctp_report.proofs.Characters.{first_character}
use Rattle.dcsctp_report.proofs.Leads.{lead_size, size_from_pos}

-- the front of these bytes is the character
pub record Front (is_word : Bool) (bytes : List ℕ) (n : ℕ) : Type 0 where
  pub begins : BeginsWithShown is_word bytes
  pub inside : n ≤ length bytes
  pub taken : take n bytes ≡ encode begins.character
  pub left : drop n bytes ≡ begins.rest

same_first : (bytes : List ℕ) (n : ℕ) → 0 < n → get_or (take n bytes) 0 0 ≡ get_or bytes 0 0
same_first bytes zero h = absurd (omega arith)
same_first [] (suc n) h = refl
same_first (byte ∷ rest) (suc n) h = refl

-- the bytes of the size are these characters
front_of : (is_word : Bool) (bytes cs : List ℕ) (n : ℕ) → n ≡ size_from (get_or bytes 0 0)
    → n ≤ length bytes
    → scalars cs ≡ true → encodes cs ≡ take n bytes
    → is_shown is_word (get_or (chars (take n bytes)) 0 0) ≡ true → Front is_word bytes n
front_of is_word bytes [] n is inside ok spells shown =
    absurd (omega (arith, ap length spells, length-take n bytes, size_from_pos (get_or bytes 0 0)))
front_of is_word bytes (c ∷ ds) n is inside ok spells shown =
    let p = and_parts (scalar c) (scalars ds) ok in
    let some : 0 < n = omega (arith, size_from_pos (get_or bytes 0 0)) in
    let first : get_or (encode c ++ encodes ds) 0 0 ≡ get_or bytes 0 0 =
    ap (λ l. get_or l 0 0) spells ∙ same_first bytes n some in
    let size : n ≡ length (encode c) = is ∙ ap size_from (sym first)
    ∙ lead_size c (encodes ds) p.0 in
    let none : length (encodes ds) ≡ 0 =
    omega (arith, ap length spells, length-append (encode c) (encodes ds), length-take n bytes) in
    let whole : take n bytes ≡ encode c =
    sym spells ∙ ap (λ l. encode c ++ l) (nil_from_length (encodes ds) none)
    ∙ append-nil (encode c) in
    let read : chars (take n bytes) ≡ c ∷ ds = ap chars (sym spells) ∙ chars-encodes (c ∷ ds) ok in
    record {
      begins = record {
        character = c;
        rest = drop n bytes;
        scalar = p.0;
        shown = sym (ap (λ l. is_shown is_word (get_or l 0 0)) read) ∙ shown;
        front = sym (take-append-drop n bytes) ∙ ap (λ l. l ++ drop n bytes) whole;
      };
      inside = inside;
      taken = whole;
      left = refl;
    }

chosen : (b : Bool) (size n : ℕ) → cond b size 0 ≡ n → 0 < n → (b ≡ true) × (size ≡ n)
chosen true size n is some = (refl, is)
chosen false size n is some = absurd (omega arith)

pub shown_front : (is_word : Bool) (bytes : List ℕ) (n : ℕ) → shown_size is_word bytes ≡ n → 0 < n
    → Front is_word bytes n
shown_front is_word bytes n is some =
    let size = size_from (get_or bytes 0 0) in
    let found = chosen (nat_le size (length bytes) && is_character is_word
    (take size bytes)) size n is some in
    let parts = and_parts _ _ found.0 in
    let fits : nat_le size (length bytes) ≡ true = parts.0 in
    let inside : size ≤ length bytes = grind (arith, nat_tests) in
    let both = and_parts _ _ parts.1 in
    let u = IsUtf8-from_is_utf8 (take size bytes) both.0 in
    subst (Front is_word bytes) found.1 (front_of is_word bytes u.0 size refl inside u.1.0 u.1.1
    both.1)

pub no_front : (is_word : Bool) (bytes : List ℕ) → shown_size is_word bytes ≡ 0
    → BeginsWithShown is_word bytes → ⊥
no_front is_word bytes is b =
    let c = b.character in
    let size = size_from (get_or bytes 0 0) in
    let same : size ≡ length (encode c) =
    ap (λ l. size_from (get_or l 0 0)) b.front ∙ lead_size c b.rest b.scalar in
    let taken : take size bytes ≡ encode c =
    ap (take size) b.front ∙ take_at (encode c) b.rest size (sym same) in
    let inside : size ≤ length bytes = omega (arith, same, ap length b.front, length-append (encode c) b.rest) in
    let fits : nat_le size (length bytes) ≡ true = grind (arith, nat_tests) in
    let shown : is_character is_word (take size bytes) ≡ true =
    ap (is_character is_word) taken
    ∙ sym (first_character is_word (encode c) [] c (IsUtf8-encode c b.scalar) (sym (append-nil
    (encode c))))
    ∙ b.shown in
    let both : (nat_le size (length bytes) && is_character is_word (take size bytes))
    ≡ true = and_from _ _ fits shown in
    let value : shown_size is_word bytes ≡ size = ap (λ t. cond t size 0) both in
    omega (arith, value, is, size_from_pos (get_or bytes 0 0))
