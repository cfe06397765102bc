-- Serial number arithmetic (RFC 1982). A space has m positions, 0 to m - 1, and wraps round.
use Rattle.std.specs.Prelude.{◌≡◌, ℕ, ◌+◌, ◌-◌, ◌/◌, ◌%◌, ◌<◌, ◌⊎◌, min}

-- (a + n) mod m: the position n places after a (RFC 1982 section 3.1)
abbrev pub wrapped_sum : (m a n : ℕ) → ℕ
wrapped_sum m a n = (a + n) % m

-- (a - b) mod m: how many places a is after b
abbrev pub wrapped_difference : (m a b : ℕ) → ℕ
wrapped_difference m a b = (a + (m - b % m)) % m

-- a is after b by less than half of the space (RFC 1982 section 3.2)
abbrev pub IsGreater : (m a b : ℕ) → Type 0
IsGreater m a b = (0 < wrapped_difference m a b) × (wrapped_difference m a b < m / 2)

-- a is where b is, or is greater
abbrev pub IsGreaterOrEqual : (m a b : ℕ) → Type 0
IsGreaterOrEqual m a b = (a ≡ b) ⊎ IsGreater m a b

-- the fewest places from one position to the other, whichever way
abbrev pub distance : (m a b : ℕ) → ℕ
distance m a b = min (wrapped_difference m a b) (wrapped_difference m b a)
