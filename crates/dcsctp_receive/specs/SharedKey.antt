-- The association shared key (RFC 4895 section 6.1).
use Rattle.std.specs.Prelude.{◌≡◌, ℕ, ◌+◌, ◌*◌, ◌<◌, ◌≤◌, ◌⊎◌, List, fold, length}
use Rattle.std.specs.declared.cmp.{Ordering.{Ordering}, Ordering.TheVariants.{Less, Equal, Greater}}

-- the number that a key vector is, most significant byte first
abbrev pub vector_number : List ℕ → ℕ
vector_number bytes = fold (λ number byte. 256 * number + byte) 0 bytes

-- The first comes first: it is the smaller number, or the same number and not longer.
abbrev pub ComesFirst : List ℕ → List ℕ → Type 0
ComesFirst one other = (vector_number one < vector_number other)
    ⊎ ((vector_number one ≡ vector_number other) × (length one ≤ length other))

-- what a comparison of numbers says: only private functions cite it
abbrev pub Orders : Ordering → ℕ → ℕ → Type 0
Orders Less a b = a < b
Orders Equal a b = a ≡ b
Orders Greater a b = b < a
