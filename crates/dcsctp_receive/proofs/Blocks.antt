-- Gap ack blocks are isolated if and only if the first is, and those after it are; none is wrong that
-- wasn't captured.
use Rattle.std.proofs.Common.{◌≡◌, ◌+◌, ◌-◌, ◌<◌, ◌≤◌, ◌&&◌, ℕ, zero, suc, true, length, nat_le, nat_lt, refl, ap, ◌∙◌, arith}
use Rattle.std.proofs.lemmas.Bool.{cond-true, cond-false, le-ltb, lt-ltb, le-leb}
use Rattle.dcsctp_borrowed.specs.Part.{Part, after}
use Rattle.dcsctp_receive.specs.Fields.{are_isolated, block_start, block_end}

pub are_isolated-next : (n end : ℕ) (p : Part) → 0 < n → 4 ≤ length p.bytes
    → end + 1 < block_start p → block_start p ≤ block_end p
    → are_isolated n end p ≡ are_isolated (n - 1) (block_end p) (after 4 p)
are_isolated-next zero end p some four apart ends = absurd (omega (arith, some))
are_isolated-next (suc n) end p some four apart ends =
    let others = are_isolated n (block_end p) (after 4 p) in
    let one_less : n ≡ suc n - 1 = omega arith in
    cond-false (nat_lt (length p.bytes) 4) true
    (nat_lt (end + 1) (block_start p) && nat_le (block_start p) (block_end p) && others)
    (le-ltb (length p.bytes) 4 four)
    ∙ ap (λ b. b && nat_le (block_start p) (block_end p) && others)
    (lt-ltb (end + 1) (block_start p) apart)
    ∙ ap (λ b. b && others) (le-leb (block_start p) (block_end p) ends)
    ∙ ap (λ (k : ℕ). are_isolated k (block_end p) (after 4 p)) one_less

pub are_isolated-none : (n end : ℕ) (p : Part) → length p.bytes < 4 → are_isolated n end p ≡ true
are_isolated-none zero end p few = refl
are_isolated-none (suc n) end p few =
    cond-true (nat_lt (length p.bytes) 4) true
    (nat_lt (end + 1) (block_start p) && nat_le (block_start p) (block_end p)
    && are_isolated n (block_end p) (after 4 p))
    (lt-ltb (length p.bytes) 4 few)
