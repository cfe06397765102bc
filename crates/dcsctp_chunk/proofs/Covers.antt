-- What lists of blocks cover, as sets: in parts, in another order, with one block in the place of
-- two.
use Rattle.std.{proofs.Common.{◌≡◌, ◌↔◌, ℕ, ◌+◌, ◌<◌, ◌≤◌, min, max, Bool, true, ◌||◌, ◌&&◌, List, [], ◌∷◌, ◌++◌, length, get_or, take, arith, ap, sym, ◌∙◌, nat_le}, specs.List.Sorted.{IsPermutation}, proofs.Math.Path.{fun_ext}, proofs.Math.Bool.{or_comm}, proofs.lemmas.Bool.Decides.{nat_tests}, proofs.lemmas.Grind.{common_steps}, proofs.lemmas.List.Folds.{list_any-append, list_any_at, Any-from_list_any}, proofs.lemmas.List.Sorted.{list_any-IsPermutation}}
use Rattle.dcsctp_chunk.specs.{declared.sack_chunk.GapAckBlock.{GapAckBlock}, Cover.{Covers, SameCover}, Apart.{covered}}

abbrev pub Blocks : Type 0
Blocks = List GapAckBlock

-- any block, where a lemma asks for a default
abbrev pub zero_block : GapAckBlock
zero_block = record { start = 0; end = 0 }

abbrev is_in : ℕ → GapAckBlock → Bool
is_in o b = nat_le b.start o && nat_le o b.end

-- what lies in either set
pub union : (ℕ → Bool) → (ℕ → Bool) → ℕ → Bool
union s t o = s o || t o

pub union_comm : (s t : ℕ → Bool) → union s t ≡ union t s
unfolding union
union_comm s t = fun_ext (λ o. or_comm (s o) (t o))

pub union_assoc : (s t u : ℕ → Bool) → union (union s t) u ≡ union s (union t u)
unfolding union
union_assoc s t u = fun_ext (λ o. grind arith)

pub cover_append : (xs ys : Blocks) → covered (xs ++ ys) ≡ union (covered xs) (covered ys)
unfolding covered union
cover_append xs ys = fun_ext (λ o. list_any-append (is_in o) xs ys)

pub cover_cons : (b : GapAckBlock) (bs : Blocks)
    → covered (b ∷ bs) ≡ union (covered (b ∷ [])) (covered bs)
cover_cons b bs = cover_append (b ∷ []) bs

pub ruleset covers = (cover_append, cover_cons, union_comm, union_assoc)

pub cover_permutation : (xs ys : Blocks) → IsPermutation xs ys → covered xs ≡ covered ys
unfolding covered
cover_permutation xs ys p = fun_ext (λ o. list_any-IsPermutation (is_in o) xs ys p)

-- a block that ends before its start covers nothing
pub cover_reversed : (b : GapAckBlock) (bs : Blocks) → b.end < b.start
    → covered (b ∷ bs) ≡ covered bs
unfolding covered
cover_reversed b bs l = fun_ext (λ o. grind (arith, nat_tests))

-- one block in the place of two that overlap or touch
abbrev pub join : GapAckBlock → GapAckBlock → GapAckBlock
join b r = record { start = min b.start r.start; end = max b.end r.end }

pub cover_join : (b r : GapAckBlock) (bs : Blocks) → b.start ≤ b.end → r.start ≤ r.end
    → r.start ≤ b.end + 1 → b.start ≤ r.end + 1 → covered (join b r ∷ bs) ≡ covered (b ∷ r ∷ bs)
unfolding covered
cover_join b r bs some more k l = fun_ext (λ o. grind (arith, nat_tests))

pub covers_iff : (bs : Blocks) (o : ℕ) → Covers bs o ↔ (covered bs o ≡ true)
unfolding covered
covers_iff bs o = (
  (λ c. let at = c.1.2 in list_any_at (is_in o) bs c.1.0 c.0 c.1.1 (grind (arith, nat_tests))),
  (λ e.
      let a = Any-from_list_any (is_in o) bs e in
      (a.1, (a.0, a.2, a.3), grind (arith, nat_tests, a.4))),
)

pub cover_same : (xs ys : Blocks) → covered xs ≡ covered ys → SameCover xs ys
cover_same xs ys e o =
    let at = ap (λ s. s o) e in (
      (λ c. (covers_iff ys o).1 (sym at ∙ (covers_iff xs o).0 c)),
      (λ c. (covers_iff xs o).1 (at ∙ (covers_iff ys o).0 c)),
    )

pub cover_last : (xs : Blocks) (i j : ℕ) (d : GapAckBlock) → j ≡ i + 1 → i < length xs
    → covered (take j xs) ≡ covered (get_or xs i d ∷ take i xs)
cover_last xs i j d e l = grind (arith, common_steps, covers)
