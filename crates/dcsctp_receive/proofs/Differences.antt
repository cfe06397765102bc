-- Numbers are equal if and only if their exclusive or is zero.
use Rattle.std.proofs.Common.{◌≡◌, ◌∙◌, ℕ, bit_or, bit_xor, arith, sym, ap}
use lib.Bits.{or_add_and, and_le_l, and_le_r, xor_assoc, xor_self, xor_zero_r}

pub both_zero : (a b : ℕ) → bit_or a b ≡ 0 → (a ≡ 0) × (b ≡ 0)
both_zero a b e = omega (arith, or_add_and a b, and_le_l a b, and_le_r a b)

pub no_difference : (a b : ℕ) → bit_xor a b ≡ 0 → a ≡ b
no_difference a b e =
    sym (xor_zero_r a) ∙ ap (bit_xor a) (sym (xor_self b)) ∙ sym (xor_assoc a b b)
    ∙ ap (λ x. bit_xor x b) e
