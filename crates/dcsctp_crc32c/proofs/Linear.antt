-- The register is linear: numbers that are joined by exclusive or go through the bits apart.
use Rattle.std.proofs.Common.{◌≡◌, ◌∙◌, ℕ, zero, suc, ◌+◌, ◌*◌, ◌/◌, ◌%◌, ◌^◌, ◌<◌, bit_xor, arith, refl, sym, ap}
use Rattle.std.proofs.lemmas.Nat.{xor_shr, xor_mod, xor_comm, pow_pos, shr_split, mod_below}
use Rattle.std.proofs.Math.Nat.{pow-suc, mul_assoc, zero-mul}
use lib.Bits.{xor_assoc, xor_self, xor_zero_r, xor_block}
use Rattle.dcsctp_crc32c.specs.Checksum.{polynomial, shifted, after_bits}

-- two joined pairs, joined the other way
xor_pairs : (a b c d : ℕ) → bit_xor (bit_xor a b) (bit_xor c d) ≡ bit_xor (bit_xor a c)
    (bit_xor b d)
xor_pairs a b c d =
    xor_assoc a b (bit_xor c d)
    ∙ ap (bit_xor a) (sym (xor_assoc b c d) ∙ ap (λ x. bit_xor x d) (xor_comm b c)
    ∙ xor_assoc c b d)
    ∙ sym (xor_assoc a c (bit_xor b d))

-- a bit times a number
times_bit : (p c d : ℕ) → c < 2 → d < 2 → bit_xor c d * p ≡ bit_xor (c * p) (d * p)
times_bit p zero zero low high = rw (zero-mul p) refl
times_bit p zero (suc zero) low high = rw (zero-mul p) refl
times_bit p (suc zero) zero low high = rw (zero-mul p) (sym (xor_zero_r (1 * p)))
times_bit p (suc zero) (suc zero) low high = rw (zero-mul p) (sym (xor_self (1 * p)))
times_bit p zero (suc (suc d)) low high = absurd (omega arith)
times_bit p (suc zero) (suc (suc d)) low high = absurd (omega arith)
times_bit p (suc (suc c)) d low high = absurd (omega arith)

shifted-xor : (a b : ℕ) → shifted (bit_xor a b) ≡ bit_xor (shifted a) (shifted b)
shifted-xor a b =
    (λ i. bit_xor (xor_shr a b 1 i) (xor_mod a b 1 i * polynomial))
    ∙ ap (bit_xor (bit_xor (a / 2) (b / 2))) (times_bit polynomial (a % 2) (b % 2) (omega arith)
    (omega arith))
    ∙ xor_pairs (a / 2) (b / 2) (a % 2 * polynomial) (b % 2 * polynomial)

pub after_bits-xor : (n a b : ℕ) → after_bits n (bit_xor a b) ≡ bit_xor (after_bits n a)
    (after_bits n b)
unfolding after_bits
after_bits-xor zero a b = refl
after_bits-xor (suc n) a b =
    ap (after_bits n) (shifted-xor a b) ∙ after_bits-xor n (shifted a) (shifted b)

-- zeros leave the register as they came in
after_bits-zeros : (n a : ℕ) → after_bits n (a * 2 ^ n) ≡ a
unfolding after_bits
after_bits-zeros zero a = omega arith
after_bits-zeros (suc n) a =
    let double : a * 2 ^ suc n ≡ a * 2 ^ n * 2 =
    ap (λ x. a * x) (pow-suc 2 n) ∙ sym (mul_assoc a (2 ^ n) 2) in
    let half : a * 2 ^ suc n / 2 ≡ a * 2 ^ n = omega (arith, double) in
    let even : a * 2 ^ suc n % 2 ≡ 0 = omega (arith, double) in
    ap (after_bits n) ((λ i. bit_xor (half i) (even i * polynomial)) ∙ xor_zero_r (a * 2 ^ n))
    ∙ after_bits-zeros n a

pub after_bits-add : (m n a : ℕ) → after_bits (m + n) a ≡ after_bits n (after_bits m a)
unfolding after_bits
after_bits-add zero n a = let e : zero + n ≡ n = omega arith in ap (λ k. after_bits k a) e
after_bits-add (suc m) n a =
    let e : suc m + n ≡ suc (m + n) = omega arith in
    ap (λ k. after_bits k a) e ∙ after_bits-add m n (shifted a)

-- a number is its low n bits, joined with the others
low_high : (n a : ℕ) → a ≡ bit_xor (a % 2 ^ n) (a / 2 ^ n * 2 ^ n)
low_high n a =
    let high = a / 2 ^ n in
    let low = a % 2 ^ n in
    let small : low < 2 ^ n = mod_below a (2 ^ n) (pow_pos n) in
    let apart : bit_xor (0 * 2 ^ n + low) (high * 2 ^ n + 0) ≡ high * 2 ^ n + bit_xor low 0 =
    xor_block n 0 high low 0 small (pow_pos n) in
    let l : 0 * 2 ^ n + low ≡ low = omega (arith, zero-mul (2 ^ n)) in
    let h : high * 2 ^ n + 0 ≡ high * 2 ^ n = omega arith in
    sym (shr_split a n) ∙ ap (λ x. high * 2 ^ n + x) (sym (xor_zero_r low)) ∙ sym apart
    ∙ (λ i. bit_xor (l i) (h i))

-- n bits of a number that enters: its low n bits act, and the others move down
pub after_bits-enters : (n register a : ℕ) → after_bits n (bit_xor register a)
    ≡ bit_xor (after_bits n (bit_xor register (a % 2 ^ n))) (a / 2 ^ n)
after_bits-enters n register a =
    let high = a / 2 ^ n in
    let low = a % 2 ^ n in
    ap (λ x. after_bits n (bit_xor register x)) (low_high n a)
    ∙ ap (after_bits n) (sym (xor_assoc register low (high * 2 ^ n)))
    ∙ after_bits-xor n (bit_xor register low) (high * 2 ^ n)
    ∙ ap (bit_xor (after_bits n (bit_xor register low))) (after_bits-zeros n high)

-- the low byte goes by itself
pub after_bits-split : (m n a : ℕ) → n ≡ 8 + m → after_bits n a
    ≡ bit_xor (after_bits n (a % 2 ^ 8)) (after_bits m (a / 2 ^ 8))
after_bits-split m n a is =
    let high = a / 2 ^ 8 in
    ap (after_bits n) (low_high 8 a) ∙ after_bits-xor n (a % 2 ^ 8) (high * 2 ^ 8)
    ∙ ap (bit_xor (after_bits n (a % 2 ^ 8))) (ap (λ k. after_bits k (high * 2 ^ 8)) is
    ∙ after_bits-add 8 m (high * 2 ^ 8) ∙ ap (after_bits m) (after_bits-zeros 8 high))
