-- Two numbers of two bytes each that are read as one of four.
use Rattle.std.proofs.Common.{◌≡◌, ◌≤◌, ◌<◌, ◌+◌, ◌*◌, ◌/◌, ◌%◌, ℕ, List, [], ◌∷◌, length, drop, arith}
use Rattle.dcsctp_tlv.specs.Number.{AreBytes, number16, number32}

pub two_in_one : (bytes : List ℕ) → 4 ≤ length bytes → number32 bytes ≡ number16 bytes * 65536
    + number16 (drop 2 bytes)
two_in_one [] size = absurd (omega (arith, size))
two_in_one (a ∷ []) size = absurd (omega (arith, size))
two_in_one (a ∷ b ∷ []) size = absurd (omega (arith, size))
two_in_one (a ∷ b ∷ c ∷ []) size = absurd (omega (arith, size))
two_in_one (a ∷ b ∷ c ∷ d ∷ more) size = omega arith

low_fits : (bytes : List ℕ) → 4 ≤ length bytes → AreBytes bytes → number16 (drop 2 bytes) < 65536
low_fits [] size fits = absurd (omega (arith, size))
low_fits (a ∷ []) size fits = absurd (omega (arith, size))
low_fits (a ∷ b ∷ []) size fits = absurd (omega (arith, size))
low_fits (a ∷ b ∷ c ∷ []) size fits = absurd (omega (arith, size))
low_fits (a ∷ b ∷ c ∷ d ∷ more) size fits =
    let high : c < 256 = fits 2 in
    let low : d < 256 = fits 3 in
    omega (arith, high, low)

pub pair_first : (bytes : List ℕ) → 4 ≤ length bytes → AreBytes bytes → number32 bytes / 65536
    ≡ number16 bytes
pair_first bytes size fits =
    let whole = two_in_one bytes size in
    let low = low_fits bytes size fits in
    omega (arith, whole, low)

pub pair_second : (bytes : List ℕ) → 4 ≤ length bytes → AreBytes bytes → number32 bytes % 65536
    ≡ number16 (drop 2 bytes)
pair_second bytes size fits =
    let whole = two_in_one bytes size in
    let low = low_fits bytes size fits in
    omega (arith, whole, low)
