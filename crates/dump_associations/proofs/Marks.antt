-- Which bits of the words are set after one of them was set or cleared.
use Rattle.std.proofs.Common.{◌≡◌, ◌≢◌, ◌+◌, ◌*◌, ◌/◌, ◌%◌, ◌^◌, ◌<◌, ◌≤◌, ◌⊎◌, ◌↔◌, ℕ, List, length, replicate, ◌-◌, IsTrue, nat_eq, tests, slice_index_or, slice_set, bit_and, bit_or, w64, inl, inr, sym, ap, ◌∙◌, arith, get_or-set_same, get_or-set_other}
use Rattle.std.specs.Int.{bit_at, bit_not}
use Rattle.std.proofs.Common.{not}
use Rattle.std.proofs.lemmas.Nat.{pow_below, pow_pos}
use Rattle.std.proofs.lemmas.List.{get_or-replicate, get_or_past}
use Rattle.std.proofs.lemmas.Nat.Bits.{bit_at-zero, and_pow, bit_at_or, bit_at_and, bit_at_not, bit_at-pow_same, bit_at-pow_other}
use Rattle.std.proofs.lemmas.Bool.{cases_eq, cases_lt}
use Rattle.dump_packet.specs.Serial.{ahead, IsAfter}
use Rattle.dump_associations.specs.Tsns.{IsMarked, HaveOneBit}

-- ---- the bits of one word

pub is_set : (n k : ℕ) → IsTrue (not (nat_eq (bit_and n (2 ^ k)) 0)) ↔ (bit_at n k ≡ 1)
is_set n k = elim (cases_eq (bit_at n k) 1) [
  | inl on ↦
      let e : bit_and n (2 ^ k) ≡ 2 ^ k =
      and_pow n k ∙ ap (λ (x : ℕ). x * 2 ^ k) on ∙ omega arith in
      grind (arith, tests, e, pow_pos k)
  | inr off ↦
      let none : bit_at n k ≡ 0 = omega (arith, off) in
      let e : bit_and n (2 ^ k) ≡ 0 =
      and_pow n k ∙ ap (λ (x : ℕ). x * 2 ^ k) none ∙ omega arith in
      grind (arith, tests, e)
]

set_bit : (n k i : ℕ) → (bit_at (bit_or n (2 ^ k)) i ≡ 1) ↔ ((i ≡ k) ⊎ (bit_at n i ≡ 1))
set_bit n k i = elim (cases_eq i k) [
  | inl e ↦
      let same : bit_at (bit_or n (2 ^ k)) k ≡ 1 =
      omega (arith, bit_at_or n (2 ^ k) k, bit_at-pow_same k) in
      (λ _. inl e, λ _. ap (bit_at (bit_or n (2 ^ k))) e ∙ same)
  | inr apart ↦
      let same : bit_at (bit_or n (2 ^ k)) i ≡ bit_at n i =
      omega (arith, bit_at_or n (2 ^ k) i, bit_at-pow_other k i apart) in
      (λ h. inr (sym same ∙ h), λ o. elim o [ inl e ↦ absurd (apart e) | inr h ↦ same ∙ h ])
]

clear_bit : (n k i : ℕ) → k < 64 → i < 64
    → (bit_at (bit_and n (bit_not w64 (2 ^ k))) i ≡ 1) ↔ (¬ (i ≡ k) × (bit_at n i ≡ 1))
clear_bit n k i k_in i_in =
    let both = bit_at_and n (bit_not w64 (2 ^ k)) i in
    let other = bit_at_not w64 (2 ^ k) i (pow_below k 64 k_in) i_in in
    elim (cases_eq i k) [
      | inl e ↦
          let one : bit_at (2 ^ k) i ≡ 1 = ap (bit_at (2 ^ k)) e ∙ bit_at-pow_same k in
          (λ h. absurd (omega (arith, h, both, other, one)), λ h. absurd (h.0 e))
      | inr apart ↦
          let none = bit_at-pow_other k i apart in (
            λ h. (apart, omega (arith, h, both, other, none)),
            λ h. omega (arith, h.1, both, other, none),
          )
    ]

-- ---- the bits of all words

module _ (words : List ℕ) (t tsn : ℕ) (long : length words ≡ 32) where
  on : {x y : ℕ} → x ≡ y → bit_at x (t % 64) ≡ bit_at y (t % 64)
  on e = ap (λ (x : ℕ). bit_at x (t % 64)) e

  -- the word that has the bit of t, after the word of tsn was written
  there : (new : ℕ) → t / 64 % 32 ≡ tsn / 64 % 32
      → slice_index_or (slice_set words (tsn / 64 % 32) new) (t / 64 % 32) 0 ≡ new
  there new e =
      let w = tsn / 64 % 32 in
      ap (λ (k : ℕ). slice_index_or (slice_set words w new) k 0) e
      ∙ get_or-set_same words w new 0 (omega (arith, long))

  was : t / 64 % 32 ≡ tsn / 64 % 32
      → slice_index_or words (t / 64 % 32) 0 ≡ slice_index_or words (tsn / 64 % 32) 0
  was e = ap (λ (k : ℕ). slice_index_or words k 0) e

  elsewhere : (new : ℕ) → t / 64 % 32 ≢ tsn / 64 % 32
      → slice_index_or (slice_set words (tsn / 64 % 32) new) (t / 64 % 32) 0
      ≡ slice_index_or words (t / 64 % 32) 0
  elsewhere new apart = get_or-set_other words (tsn / 64 % 32) (t / 64 % 32) new 0 apart

  pub mark : IsMarked (slice_set words (tsn / 64 % 32)
      (bit_or (slice_index_or words (tsn / 64 % 32) 0) (2 ^ (tsn % 64)))) t
      ↔ (HaveOneBit t tsn ⊎ IsMarked words t)
  mark =
      let old = slice_index_or words (tsn / 64 % 32) 0 in
      let new = bit_or old (2 ^ (tsn % 64)) in
      let bit = set_bit old (tsn % 64) (t % 64) in
      elim (cases_eq (t / 64 % 32) (tsn / 64 % 32)) [
        | inl e ↦ (
          λ h. elim (bit.0 (on (sym (there new e)) ∙ h)) [
            | inl same ↦ inl (omega (arith, e, same))
            | inr is ↦ inr (on (was e) ∙ is)
          ],
          λ o. on (there new e) ∙ elim o [
            | inl same ↦ bit.1 (inl (omega (arith, e, same)))
            | inr is ↦ bit.1 (inr (on (sym (was e)) ∙ is))
          ],
        )
        | inr apart ↦ (
          λ h. inr (on (sym (elsewhere new apart)) ∙ h),
          λ o. on (elsewhere new apart) ∙ elim o [
            | inl one ↦ absurd (apart (omega (arith, one)))
            | inr is ↦ is
          ],
        )
      ]

  pub unmark : IsMarked (slice_set words (tsn / 64 % 32)
      (bit_and (slice_index_or words (tsn / 64 % 32) 0) (bit_not w64 (2 ^ (tsn % 64))))) t
      ↔ (¬ (HaveOneBit t tsn) × IsMarked words t)
  unmark =
      let old = slice_index_or words (tsn / 64 % 32) 0 in
      let new = bit_and old (bit_not w64 (2 ^ (tsn % 64))) in
      let bit = clear_bit old (tsn % 64) (t % 64) (omega arith) (omega arith) in
      elim (cases_eq (t / 64 % 32) (tsn / 64 % 32)) [
        | inl e ↦ (
          λ h.
              let b = bit.0 (on (sym (there new e)) ∙ h) in
              (λ one. b.0 (omega (arith, one)), on (was e) ∙ b.1),
          λ o. on (there new e)
              ∙ bit.1 (λ same. o.0 (omega (arith, e, same)), on (sym (was e)) ∙ o.1),
        )
        | inr apart ↦ (
          λ h. (λ one. apart (omega (arith, one)), on (sym (elsewhere new apart)) ∙ h),
          λ o. on (elsewhere new apart) ∙ o.1,
        )
      ]

-- ---- the bits of the TSNs up to the last one

-- none is set where all words are 0
zeros : (k : ℕ) → slice_index_or {A = ℕ} (replicate 32 0) k 0 ≡ 0
zeros k = elim (cases_lt k 32) [
  | inl within ↦ get_or-replicate 32 k 0 0 within
  | inr past ↦ get_or_past (replicate 32 0) k 0 (omega (arith, past))
]

pub none_marked : (tsn : ℕ) → ¬ (IsMarked (replicate 32 0) tsn)
none_marked tsn h =
    let off =
    ap (λ (x : ℕ). bit_at x (tsn % 64)) (zeros (tsn / 64 % 32)) ∙ bit_at-zero (tsn % 64) in
    absurd (omega (arith, off, h))

-- where the last one moves on, the bits of those between were cleared, and then its own was set
pub moved_on : (last tsn t : ℕ) (old between new : List ℕ) → last < 2 ^ 32 → tsn < 2 ^ 32
    → t < 2 ^ 32 → IsAfter last tsn → ahead t tsn < 2048
    → (IsMarked new t ↔ (HaveOneBit t tsn ⊎ IsMarked between t))
    → (IsMarked between t ↔ (((k : ℕ) → 1 ≤ k → k ≤ ahead last tsn - 1
    → ¬ (HaveOneBit t (last + k))) × IsMarked old t))
    → IsMarked new t ↔ ((t ≡ tsn) ⊎ ((ahead t last < 2048) × IsMarked old t))
moved_on last tsn t old between new last_in tsn_in t_in after near set cleared = (
  λ h. elim (set.0 h) [
    | inl one ↦ inl (omega (arith, one, near))
    | inr kept ↦
        let both = cleared.0 kept in
        elim (cases_eq t tsn) [
          | inl same ↦ inl same
          | inr apart ↦ elim (cases_lt (ahead t tsn) (ahead last tsn)) [
            | inl less ↦ absurd (both.0 (ahead last tsn - ahead t tsn) (omega (arith, less))
                (omega (arith, apart, less)) (omega (arith, after, less)))
            | inr more ↦ inr (omega (arith, after, near, more), both.1)
          ]
        ]
  ],
  λ o. elim o [
    | inl same ↦ set.1 (inl (ap (λ (x : ℕ). x % 2048) same))
    | inr was ↦ set.1 (inr (cleared.1 (
      λ k from to one. absurd (omega (arith, was.0, after, near, from, to, one)),
      was.1,
    )))
  ],
)
