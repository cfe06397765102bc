-- A set of bits is built bit by bit.
use Rattle.std.proofs.Common.{◌≡◌, ◌<◌, ◌≤◌, ◌+◌, ◌*◌, ◌%◌, ◌^◌, ◌==◌, ℕ, Bool, true, false, sym, ap, ◌∙◌, arith, inl, inr}
use Rattle.std.proofs.lemmas.Bool.{cases_lt, eq-eqb}
use Rattle.std.proofs.lemmas.Nat.Bits.{bit_at_set_same, bit_at_set_other}
use Rattle.std.specs.{Prelude.{bit_or}, Int.{w32}}
use Rattle.dcsctp_chunk.specs.Flags.{is_set}

-- The first n bits are those of a test, and no other is set.
abbrev pub Marks : (ℕ → Bool) → ℕ → ℕ → Type 0
Marks test bits n =
    ((k : ℕ) → k < n → is_set bits k ≡ test k) × ((k : ℕ) → n ≤ k → is_set bits k ≡ false)

pub marks-set : (test : ℕ → Bool) (bits n : ℕ) → n < 32 → test n ≡ true → Marks test bits n
    → Marks test (bit_or bits (1 * 2 ^ n % 2 ^ 32)) (n + 1)
marks-set test bits n within is marks =
    let new = bit_or bits (1 * 2 ^ n % 2 ^ 32) in
    let other : (k : ℕ) → (k ≡ n → ⊥) → is_set new k ≡ is_set bits k =
    λ k apart. ap (λ (b : ℕ). b == 1) (bit_at_set_other w32 bits n within k apart) in (
      (λ k below. elim (cases_lt k n) [
        | inl lower ↦ other k (λ same. absurd (omega (arith, lower, same))) ∙ marks.0 k lower
        | inr upper ↦
            let same : k ≡ n = omega (arith, below, upper) in
            ap (is_set new) same ∙ eq-eqb _ 1 (bit_at_set_same w32 bits n within)
            ∙ sym (ap test same ∙ is)
      ]),
      (λ k above. other k (λ same. absurd (omega (arith, above, same)))
          ∙ marks.1 k (omega (arith, above))),
    )

pub marks-unset : (test : ℕ → Bool) (bits n : ℕ) → test n ≡ false → Marks test bits n
    → Marks test bits (n + 1)
marks-unset test bits n isnt marks = (
  (λ k below. elim (cases_lt k n) [
    | inl lower ↦ marks.0 k lower
    | inr upper ↦
        let same : k ≡ n = omega (arith, below, upper) in marks.1 k upper ∙ sym (ap test same ∙ isnt)
  ]),
  (λ k above. marks.1 k (omega (arith, above))),
)
