-- What a loop over a text in hexadecimal has read.
use Rattle.std.proofs.Common.{◌≡◌, ◌+◌, ◌*◌, ◌<◌, ℕ, IsTrue, List, [], ◌∷◌, ◌++◌, length, get_or, drop, refl, sym, ap, subst, ◌∙◌, arith, add-one, append-nil, append_assoc, drop-cons}
use Rattle.std.specs.Char.{is_ascii_hexdigit, digit_value}
use Rattle.dump_capture.specs.HexBytes.{is_blank, Says, blank, byte, none, Continues, AreAppended}

-- a blank says nothing
pub past_blank : (text : List ℕ) (place : ℕ) → place < length text
    → IsTrue (is_blank (get_or text place 0)) → Continues text [] (drop place text)
    → Continues text [] (drop (place + 1) text)
past_blank text place within is before = λ bytes says.
    let parts : drop place text ≡ get_or text place 0 ∷ drop (place + 1) text =
    rw (add-one, drop-cons text place 0) refl in
    before bytes (subst (λ (t : List ℕ). Says t bytes) (sym parts)
    (blank (get_or text place 0) (drop (place + 1) text) bytes is says))

-- what was appended is what the text says before the rest
pub record Appends (text rest old new : List ℕ) : Type 0 where
  pub said : List ℕ
  pub appended : new ≡ old ++ said
  pub continues : Continues text said rest

pub first_byte : (text rest old : List ℕ) → Continues text [] rest → Appends text rest old old
first_byte text rest old continues = record {
  said = [];
  appended = sym (append-nil old);
  continues = continues;
}

pub next_byte : (text rest next old new : List ℕ) → Appends text rest old new → 1 < length rest
    → IsTrue (is_ascii_hexdigit (get_or rest 0 0)) → IsTrue (is_ascii_hexdigit (get_or rest 1 0))
    → Continues (drop 2 rest) [] next
    → Appends text next old
    (new ++ (16 * digit_value (get_or rest 0 0) + digit_value (get_or rest 1 0)) ∷ [])
next_byte text [] next old new before two high low more = absurd (omega arith)
next_byte text (h ∷ []) next old new before two high low more = absurd (omega arith)
next_byte text (h ∷ l ∷ t) next old new before two high low more =
    let b : ℕ = 16 * digit_value h + digit_value l in record {
      said = before.said ++ b ∷ [];
      appended = ap (λ (xs : List ℕ). xs ++ b ∷ []) before.appended
          ∙ append_assoc old before.said (b ∷ []);
      continues = λ bytes says. subst (λ (xs : List ℕ). Says text xs)
          (sym (append_assoc before.said (b ∷ []) bytes))
          (before.continues (b ∷ bytes) (byte h l t bytes high low (more bytes says)));
    }

pub last_byte : (text rest old new : List ℕ) → Appends text rest old new → rest ≡ []
    → AreAppended text old new
last_byte text rest old new before none_left = record {
  bytes = before.said;
  says = subst (λ (xs : List ℕ). Says text xs) (append-nil before.said)
      (before.continues [] (subst (λ (t : List ℕ). Says t []) (sym none_left) none));
  appended = before.appended;
}
