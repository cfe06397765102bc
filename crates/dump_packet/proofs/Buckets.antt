-- Where a bucket begins and ends.
use Rattle.std.proofs.Common.{◌≡◌, ◌+◌, ◌-◌, ◌*◌, ◌/◌, ◌^◌, ◌<◌, ◌≤◌, ℕ, ◌⊎◌, inl, inr, zero, suc, sym, ap, ◌∙◌, arith}
use Rattle.std.proofs.lemmas.Nat.{pow-add}
use Rattle.dump_packet.specs.Buckets.{least_of}

below_or_last : (r : ℕ) → r < 16 → (r + 1 < 16) ⊎ (r ≡ 15)
below_or_last r less = grind (arith, less)

octave_of : (o r : ℕ) → (1 ≤ o → 8 ≤ r) → r < 16 → (o * 8 + r) / 8 - 1 ≡ o
octave_of zero r h less = omega (arith, less)
octave_of (suc o) r h less = let low : 8 ≤ r = h (omega arith) in omega (arith, low, less)

pub least : (o r : ℕ) → (1 ≤ o → 8 ≤ r) → r < 16 → least_of (o * 8 + r) ≡ r * 2 ^ o
least o r h less =
    let e = octave_of o r h less in
    ap (λ (k : ℕ). (o * 8 + r - 8 * k) * 2 ^ k) e ∙ ap (λ (k : ℕ). k * 2 ^ o) (omega arith)

half : (o : ℕ) → 8 * 2 ^ (o + 1) ≡ 16 * 2 ^ o
half o = ap (λ (k : ℕ). 8 * k) (pow-add 2 o 1) ∙ omega arith

-- the next one begins where it ends
pub next : (o r : ℕ) → (1 ≤ o → 8 ≤ r) → r < 16 → least_of (o * 8 + r + 1) ≡ (r + 1) * 2 ^ o
next o r h less = elim (below_or_last r less) [
  | inl l ↦
      let same : o * 8 + r + 1 ≡ o * 8 + (r + 1) = omega arith in
      ap least_of same ∙ least o (r + 1) (λ p. omega (arith, h p)) l
  | inr e ↦
      let same : o * 8 + r + 1 ≡ (o + 1) * 8 + 8 = omega (arith, e) in
      ap least_of same
      ∙ (least (o + 1) 8 (λ _. omega arith) (omega arith) ∙ (half o ∙ ap (λ (k : ℕ). (k + 1) * 2 ^ o) (sym e)))
]
