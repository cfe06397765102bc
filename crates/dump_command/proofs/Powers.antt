-- Numbers of nanoseconds in units of a power of ten.
use Rattle.std.proofs.Common.{◌≡◌, ◌*◌, ◌/◌, ◌^◌, ◌≤◌, ◌<◌, ◌+◌, ◌-◌, ℕ, sym, ap, ◌∙◌, arith}
use Rattle.std.proofs.lemmas.Nat.{pow-add}
use Rattle.std.proofs.Math.Nat.{mul_assoc, mul-div_cancel, mul-div-mul_right, div-eq_of_lt, one-le-pow, pow-le-pow_right}

pub coarse : (t r : ℕ) → r ≤ 9 → t * 1000000000 / 10 ^ r ≡ t * 10 ^ (9 - r)
coarse t r h =
    let nine : 9 - r + r ≡ 9 = omega (arith, h) in
    let split : 10 ^ (9 - r) * 10 ^ r ≡ 1000000000 =
    sym (pow-add 10 (9 - r) r) ∙ ap (λ (k : ℕ). 10 ^ k) nine in
    ap (λ (n : ℕ). t * n / 10 ^ r) (sym split)
    ∙ ap (λ (n : ℕ). n / 10 ^ r) (sym (mul_assoc t (10 ^ (9 - r)) (10 ^ r)))
    ∙ mul-div_cancel (t * 10 ^ (9 - r)) (one-le-pow r 10 (omega arith))

pub fine : (t r : ℕ) → 9 ≤ r → t * 1000000000 / 10 ^ r ≡ t / 10 ^ (r - 9)
fine t r h =
    let same : r - 9 + 9 ≡ r = omega (arith, h) in
    let split : 10 ^ (r - 9) * 1000000000 ≡ 10 ^ r =
    sym (pow-add 10 (r - 9) 9) ∙ ap (λ (k : ℕ). 10 ^ k) same in
    ap (λ (n : ℕ). t * 1000000000 / n) (sym split)
    ∙ mul-div-mul_right {m = 1000000000} t (10 ^ (r - 9)) (omega arith)

pub finest : (t r : ℕ) → t < 2 ^ 64 → 29 ≤ r → t * 1000000000 / 10 ^ r ≡ 0
finest t r fits h =
    let above : 10 ^ 29 ≤ 10 ^ r = pow-le-pow_right {n = 10} (omega arith) h in
    div-eq_of_lt (omega (arith, fits, above))
