-- The first line feed of some bytes and the line before it.
use Rattle.std.proofs.Common.{suc, ◌≡◌, ◌+◌, ◌≤◌, ◌<◌, ◌==◌, ℕ, Bool, true, false, not, nat_lt, if◌then◌else◌, List, [], ◌∷◌, ◌++◌, length, take, None, Some, get_or, refl, sym, ap, subst, ◌∙◌, arith}
use Rattle.std.proofs.lemmas.Bool.Decides.{nat_tests}
use Rattle.std.proofs.lemmas.List.{length-take, get_or-take}
use Rattle.std.proofs.lemmas.List.Sums.{list_all-from_AllPass, fails_before_first}
use Rattle.std.proofs.lemmas.List.Quantifiers.{position-Some}
use Rattle.std.proofs.Math.Seq.{take-suc}
use Rattle.std.specs.List.{position, position_or_len}
use Rattle.dump_capture.specs.Decoding.{IsLine, fed}

-- ---- a line feed

not_true : (b : Bool) → b ≡ false → not b ≡ true
not_true true e = cc
not_true false e = refl

-- bytes that have none
pub no_feed : (bytes : List ℕ) → position (λ (byte : ℕ). byte == 10) bytes ≡ None → IsLine bytes
no_feed bytes none =
    let past : length bytes ≤ position_or_len (λ (byte : ℕ). byte == 10) bytes =
    by_test (nat_lt (position_or_len (λ (byte : ℕ). byte == 10) bytes) (length bytes)) refl none
    in
    list_all-from_AllPass (λ (byte : ℕ). not (byte == 10)) bytes (λ k d below.
    not_true _ (fails_before_first (λ (byte : ℕ). byte == 10) bytes k d
    (omega (arith, below, past)))) where
      by_test : (b : Bool) → nat_lt (position_or_len (λ (byte : ℕ). byte == 10) bytes)
          (length bytes) ≡ b
          → (if b then Some (position_or_len (λ (byte : ℕ). byte == 10) bytes) else None) ≡ None
          → length bytes ≤ position_or_len (λ (byte : ℕ). byte == 10) bytes
      by_test true e is = cc
      by_test false e is = grind (arith, nat_tests)

-- bytes begin with a line of this size, and its line feed
pub record BeginsWithLine (bytes : List ℕ) (size : ℕ) : Type 0 where
  pub within : size < length bytes
  pub line : IsLine (take size bytes)
  pub feed : take (size + 1) bytes ≡ fed (take size bytes)

pub first_feed : (bytes : List ℕ) (size : ℕ)
    → position (λ (byte : ℕ). byte == 10) bytes ≡ Some size → BeginsWithLine bytes size
first_feed bytes size found =
    let at = position-Some (λ (byte : ℕ). byte == 10) bytes size 0 found in
    let byte : get_or bytes size 0 ≡ 10 = let test = at.1 in grind (arith, nat_tests) in
    let next : size + 1 ≡ suc size = omega arith in record {
      within = at.0;
      line = list_all-from_AllPass (λ (b : ℕ). not (b == 10)) (take size bytes) (λ k d below.
          let within : k < size = omega (arith, below, length-take size bytes) in
          subst (λ (b : ℕ). not (b == 10) ≡ true) (sym (get_or-take size bytes k d within))
          (not_true _ ((position-Some (λ (b : ℕ). b == 10) bytes size d found).2 k within)));
      feed = ap (λ (n : ℕ). take n bytes) next ∙ take-suc bytes size 0 at.0
          ∙ ap (λ (b : ℕ). take size bytes ++ (b ∷ [])) byte;
    }
