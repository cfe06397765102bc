-- A text is read as it is if it is UTF-8, else as the fixed one.
use Rattle.std.{proofs.Common.{◌≡◌, ℕ, Bool, true, false, List, refl, if◌then◌else◌}, specs.Str.{is_utf8, IsUtf8}, proofs.lemmas.Str.{IsUtf8-from_is_utf8, is_utf8-from_IsUtf8}}
use Rattle.dcsctp_cause.specs.Text.{text_or}

pub text_or_utf8 : (fixed bytes : List ℕ) → IsUtf8 bytes → text_or fixed bytes ≡ bytes
text_or_utf8 fixed bytes p = rw (is_utf8-from_IsUtf8 bytes p) refl

pub text_or_other : (fixed bytes : List ℕ) → ¬ (IsUtf8 bytes) → text_or fixed bytes ≡ fixed
text_or_other fixed bytes none = tested (is_utf8 bytes) refl where
  tested : (b : Bool) → is_utf8 bytes ≡ b → (if b then bytes else fixed) ≡ fixed
  tested true e = absurd (none (IsUtf8-from_is_utf8 bytes e))
  tested false e = refl
