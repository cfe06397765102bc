-- The laws of the serial order, over the size of the space.
use Rattle.std.proofs.{Common.{◌≡◌, ℕ, ◌+◌, ◌-◌, ◌/◌, ◌%◌, ◌<◌, ◌⊎◌, inl, inr, refl, sym, ap, ◌∙◌, arith, ◌↔◌}, lemmas.Bool.{cases_lt}, Math.Nat.{mod-eq_of_lt, mod-lt, add-mod_right, mod-add-mod}}
use Rattle.dcsctp_types.specs.Serial.{wrapped_sum, wrapped_difference, IsGreater}

-- r is what the space leaves of n, which is below twice its size m
abbrev WrapsOnce : (m n r : ℕ) → Type 0
WrapsOnce m n r = (r < m) × ((n ≡ r) ⊎ (n ≡ r + m))

wraps_once : (m n : ℕ) → n < m + m → WrapsOnce m n (n % m)
wraps_once m n small =
    let inside : n % m < m = mod-lt n (omega arith) in
    elim (cases_lt n m) [
      | inl below ↦ (inside, inl (sym (mod-eq_of_lt below)))
      | inr above ↦
          let once : (n - m) + m ≡ n = omega arith in
          let left : n % m ≡ n - m =
          ap (λ k. k % m) (sym once) ∙ add-mod_right (n - m) m ∙ mod-eq_of_lt (omega arith) in
          (inside, inr (omega arith))
    ]

sum_wraps_once : (m a n : ℕ) → n < m → WrapsOnce m (a % m + n) (wrapped_sum m a n)
sum_wraps_once m a n small =
    let inside : a % m < m = mod-lt a (omega arith) in
    rw (← mod-add-mod a m n) (wraps_once m (a % m + n) (omega arith))

-- p and q are the positions of a and b inside the space
difference_wraps_once : (m a b p q : ℕ) → 0 < m → p ≡ a % m → q ≡ b % m
    → WrapsOnce m (p + (m - q)) (wrapped_difference m a b)
difference_wraps_once m a b p q some at_a at_b =
    let inside_a : a % m < m = mod-lt a some in
    let inside_b : b % m < m = mod-lt b some in
    let once : WrapsOnce m (a % m + (m - b % m)) ((a % m + (m - b % m)) % m) =
    wraps_once m (a % m + (m - b % m)) (omega arith) in
    rw (at_a, at_b, ← mod-add-mod a m (m - b % m)) once

-- the order of x and y, i and j places ahead of c, where d is their difference
further_is_greater : (m c i j x y d : ℕ) → c < m → i < m / 2 → j < m / 2
    → WrapsOnce m (c + i) x → WrapsOnce m (c + j) y → WrapsOnce m (x + (m - y)) d
    → (((0 < d) × (d < m / 2)) ↔ (j < i))
further_is_greater m c i j x y d inside near_x near_y at_x at_y once =
    (λ greater. omega arith, λ further. (omega arith, omega arith))

pub ordered_in_window : (m base x y i j : ℕ) → i < m / 2 → j < m / 2
    → x ≡ wrapped_sum m base i → y ≡ wrapped_sum m base j → (IsGreater m x y ↔ (j < i))
ordered_in_window m base x y i j near_x near_y at_x at_y =
    let some : 0 < m = omega arith in
    let ahead_x : WrapsOnce m (base % m + i) x = rw at_x (sum_wraps_once m base i (omega arith)) in
    let ahead_y : WrapsOnce m (base % m + j) y = rw at_y (sum_wraps_once m base j (omega arith)) in
    let same_x : x ≡ x % m = sym (mod-eq_of_lt ahead_x.0) in
    let same_y : y ≡ y % m = sym (mod-eq_of_lt ahead_y.0) in
    further_is_greater m (base % m) i j x y (wrapped_difference m x y) (mod-lt base some) near_x
    near_y ahead_x ahead_y
    (difference_wraps_once m x y x y some same_x same_y)

-- where b is greater than a, a stands ahead of b by more than half of the space
pub greater_one_way : (m a b : ℕ) → IsGreater m b a → m / 2 < wrapped_difference m a b
greater_one_way m a b greater =
    let some : 0 < m = omega arith in
    let inside_a : a % m < m = mod-lt a some in
    let inside_b : b % m < m = mod-lt b some in
    let one_way : WrapsOnce m (a % m + (m - b % m)) (wrapped_difference m a b) =
    difference_wraps_once m a b _ _ some refl refl in
    let other_way : WrapsOnce m (b % m + (m - a % m)) (wrapped_difference m b a) =
    difference_wraps_once m b a _ _ some refl refl in
    omega arith
