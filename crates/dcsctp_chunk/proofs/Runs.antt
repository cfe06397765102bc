-- Blocks that lie apart are the runs of what they cover, and the only ones. Each list of blocks has
-- runs, which are as few, and all that is said of cleaned blocks follows.
use Rattle.std.{proofs.Common.{◌≡◌, ◌↔◌, ◌⊎◌, inl, inr, ℕ, zero, suc, ◌+◌, ◌<◌, ◌≤◌, [], ◌∷◌, length, get_or, refl, sym, subst, arith, ◌∙◌}, specs.List.{All, Contains}, proofs.lemmas.Bool.{cases_lt}, proofs.lemmas.List.{get_or_default}, proofs.lemmas.List.Elements.{All-contains}}
use Rattle.dcsctp_chunk.{specs.declared.sack_chunk.GapAckBlock.{GapAckBlock}, specs.Apart.{IsApart, AreRunsOf, covered}, specs.Cover.{Covers, SameCover, IsInside, IsRun, IsRuns, IsCleaned, CleanedLaws, HasBlockInEach, AreValid}, proofs.Covers.{Blocks, zero_block, covers, cover_cons, cover_reversed, cover_join, join, cover_same}, proofs.Apart.{apart_at, apart_far, apart_first, apart_weaker}}

-- two of them that overlap or touch are one
apart_near : (n : ℕ) (bs : Blocks) (r s : GapAckBlock) → IsApart n bs → Contains bs r
    → Contains bs s → s.start ≤ r.end + 1 → r.start ≤ s.end + 1 → r ≡ s
apart_near n bs r s a t u l m =
    grind (
      arith,
      apart_far n t.0 u.0 bs r a,
      apart_far n u.0 t.0 bs r a,
      get_or_default bs u.0 s r u.1,
      t.2,
      u.2,
    )

-- an interval of covered offsets lies in one of them
interval_in_one : (n : ℕ) (bs : Blocks) (low high : ℕ) → IsApart n bs → low ≤ high
    → IsInside (Covers bs) low high
    → (r : GapAckBlock) × Contains bs r × (r.start ≤ low) × (high ≤ r.end)
interval_in_one n bs low high a l h =
    let c = h low (omega arith) l in
    let c0 = c.2.0 in
    let c1 = c.2.1 in
    elim (cases_lt c.0.end high) [
      | inl lt ↦
          let d = h (c.0.end + 1) (omega arith) (omega arith) in
          absurd (grind (arith, d.2, apart_near n bs c.0 d.0 a c.1 d.1))
      | inr ge ↦ (c.0, c.1, c0, ge)
    ]

-- it lies in each that it overlaps
interval_within : (n : ℕ) (bs : Blocks) (r : GapAckBlock) (low high : ℕ) → IsApart n bs
    → Contains bs r → low ≤ high → low ≤ r.end → r.start ≤ high → IsInside (Covers bs) low high
    → (r.start ≤ low) × (high ≤ r.end)
interval_within n bs r low high a t l m k h =
    let s = interval_in_one n bs low high a l h in
    grind (arith, s.2, s.3, apart_near n bs r s.0 a t s.1)

apart_is_run : (n : ℕ) (bs : Blocks) → IsApart n bs → (r : GapAckBlock) → Contains bs r
    → IsRun (Covers bs) r
apart_is_run n bs a r t =
    let some : r.start ≤ r.end = grind (arith, apart_at n t.0 t.0 bs r a, t.2) in
    record {
      some = some;
      inside = (λ o l m. (r, t, (l, m)));
      longest = (λ low high l m inside.
          let in_one = interval_within n bs r low high a t in
          grind (arith, in_one (omega arith) (omega arith) (omega arith) inside));
    }

apart_has_run : (n : ℕ) (bs : Blocks) → IsApart n bs → (r : GapAckBlock) → IsRun (Covers bs) r
    → Contains bs r
apart_has_run n bs a r h =
    let s = interval_in_one n bs r.start r.end a h.some h.inside in
    let e = h.longest s.0.start s.0.end s.2 s.3 (λ o l m. (s.0, s.1, (l, m))) in
    let same : s.0 ≡ r = grind (arith, e) in
    subst (λ x. Contains bs x) same s.1

runs_from_apart : (n : ℕ) (bs : Blocks) → IsApart n bs → IsRuns bs (Covers bs)
runs_from_apart n bs a = record {
  rising = (λ i j d l m. omega (
    arith,
    apart_far n i j bs d a l m,
    (apart_at n i i bs d a (omega arith) (omega arith)).1,
  ));
  each = apart_is_run n bs a;
  all = apart_has_run n bs a;
}

run_of_same : (P Q : ℕ → Type 0) → ((o : ℕ) → P o → Q o) → ((o : ℕ) → Q o → P o)
    → (r : GapAckBlock) → IsRun P r → IsRun Q r
run_of_same P Q to back r h = record {
  some = h.some;
  inside = (λ o l m. to o (h.inside o l m));
  longest = (λ low high l m inside. h.longest low high l m (λ o p q. back o (inside o p q)));
}

runs_of_same : (xs ys rs : Blocks) → SameCover xs ys → IsRuns rs (Covers xs) → IsRuns rs (Covers ys)
runs_of_same xs ys rs e h =
    let to = λ (o : ℕ). (e o).0 in
    let back = λ (o : ℕ). (e o).1 in
    record {
      rising = h.rising;
      each = (λ r t. run_of_same (Covers xs) (Covers ys) to back r (h.each r t));
      all = (λ r t. h.all r (run_of_same (Covers ys) (Covers xs) back to r t));
    }

abbrev IsRising : Blocks → Type 0
IsRising rs =
    (i j : ℕ) (d : GapAckBlock) → i < j → j < length rs
    → (get_or rs i d).start < (get_or rs j d).start

contains_at : (x y : GapAckBlock) (xs : Blocks) (k : ℕ) → k < length (x ∷ xs)
    → get_or (x ∷ xs) k y ≡ y → (x ≡ y) ⊎ Contains xs y
contains_at x y xs zero l e = inl e
contains_at x y xs (suc k) l e = inr (k, omega arith, e)

rising_head : (b r : GapAckBlock) (bs : Blocks) → IsRising (b ∷ bs) → Contains bs r
    → b.start < r.start
rising_head b r bs h t = grind (arith, h 0 (suc t.0) r, t.2)

rising_tail : (b : GapAckBlock) (bs : Blocks) → IsRising (b ∷ bs) → IsRising bs
rising_tail b bs h i j d l m = h (suc i) (suc j) d (omega arith) (omega arith)

tail_within : (r s : GapAckBlock) (rs ss : Blocks) → r ≡ s → IsRising (r ∷ rs)
    → ((x : GapAckBlock) → Contains (r ∷ rs) x → Contains (s ∷ ss) x) → (x : GapAckBlock)
    → Contains rs x → Contains ss x
tail_within r s rs ss e h f x t =
    let u = f x (suc t.0, omega arith, t.2) in
    grind (arith, contains_at s x ss u.0 u.1 u.2, rising_head r x rs h t)

same_from_rising : (rs ss : Blocks) → IsRising rs → IsRising ss
    → ((x : GapAckBlock) → Contains rs x → Contains ss x)
    → ((x : GapAckBlock) → Contains ss x → Contains rs x) → rs ≡ ss
same_from_rising [] [] h k f g = refl
same_from_rising [] (s ∷ ss) h k f g = absurd (omega (arith, (g s (0, omega arith, refl)).1))
same_from_rising (r ∷ rs) [] h k f g = absurd (omega (arith, (f r (0, omega arith, refl)).1))
same_from_rising (r ∷ rs) (s ∷ ss) h k f g =
    let t = f r (0, omega arith, refl) in
    let u = g s (0, omega arith, refl) in
    let e : r ≡ s = grind (
      arith,
      contains_at s r ss t.0 t.1 t.2,
      contains_at r s rs u.0 u.1 u.2,
      rising_head r s rs h,
      rising_head s r ss k,
    ) in
    let rest =
    same_from_rising rs ss (rising_tail r rs h) (rising_tail s ss k)
    (tail_within r s rs ss e h f) (tail_within s r ss rs (sym e) k g) in
    cc

-- a set has one list of runs
runs_unique : (P : ℕ → Type 0) (rs ss : Blocks) → IsRuns rs P → IsRuns ss P → rs ≡ ss
runs_unique P rs ss h k =
    same_from_rising rs ss h.rising k.rising (λ x t. k.all x (h.each x t))
    (λ x t. h.all x (k.each x t))

-- in each run lies a block of any list with the same cover
block_in_each : (n : ℕ) (rs bs : Blocks) → IsApart n rs → SameCover rs bs → HasBlockInEach rs bs
block_in_each n rs bs a e r t =
    let some = (apart_is_run n rs a r t).some in
    let c = (e r.start).0 (r, t, (omega arith, some)) in
    let c0 = c.2.0 in
    let c1 = c.2.1 in
    let w = interval_within n rs r c.0.start c.0.end a t (omega arith) (omega arith) c1
    (λ o l m. (e o).1 (c.0, c.1, (l, m))) in
    (c.0, c.1, w.0, omega arith, w.1)

-- the blocks have runs, which start at n or later and are as few
record HasRuns (n : ℕ) (bs : Blocks) : Type 0 where
  runs : Blocks
  apart : IsApart n runs
  cover : covered runs ≡ covered bs
  count : length runs ≤ length bs

-- runs and one more block do
with_one : (n : ℕ) (b : GapAckBlock) (rs : Blocks) → b.start ≤ b.end → n ≤ b.start → IsApart n rs
    → HasRuns n (b ∷ rs)
with_one n b [] some l a =
    record { runs = b ∷ []; apart = (l, some, tt); cover = refl; count = omega arith }
with_one n b (r ∷ rs) some l a =
    let low = a.0 in
    let more = a.1 in
    elim (cases_lt (r.end + 1) b.start) [
      | inl k ↦
          let t = with_one (r.end + 2) b rs some (omega arith) a.2 in
          record {
            runs = r ∷ t.runs;
            apart = (low, more, t.apart);
            cover = grind (arith, covers, t.cover);
            count = omega (arith, t.count);
          }
      | inr k ↦ elim (cases_lt (b.end + 1) r.start) [
        | inl m ↦ record {
          runs = b ∷ r ∷ rs;
          apart = (l, some, (omega arith, more, a.2));
          cover = refl;
          count = omega arith;
        }
        | inr m ↦
            let rest = apart_weaker n (r.end + 2) rs (omega arith) a.2 in
            let t = with_one n (join b r) rs (omega arith) (omega arith) rest in
            record {
              runs = t.runs;
              apart = t.apart;
              cover = t.cover ∙ cover_join b r rs some more m k;
              count = omega (arith, t.count);
            }
      ]
    ]

runs_of : (bs : Blocks) → HasRuns 0 bs
runs_of [] = record { runs = []; apart = tt; cover = refl; count = omega arith }
runs_of (b ∷ bs) =
    let t = runs_of bs in
    elim (cases_lt b.end b.start) [
      | inl l ↦ record {
        runs = t.runs;
        apart = t.apart;
        cover = t.cover ∙ sym (cover_reversed b bs l);
        count = omega (arith, t.count);
      }
      | inr some ↦
          let p = with_one 0 b t.runs some (omega arith) t.apart in
          record {
            runs = p.runs;
            apart = p.apart;
            cover = grind (arith, cover_cons, p.cover, t.cover);
            count = omega (arith, p.count, t.count);
          }
    ]

runs_from_cover : (rs bs : Blocks) → AreRunsOf rs bs → IsRuns rs (Covers bs)
runs_from_cover rs bs are =
    runs_of_same rs bs rs (cover_same rs bs are.cover) (runs_from_apart 0 rs are.apart)

-- what are the runs lies apart and covers the same, and is as few
known_runs : (rs bs : Blocks) → IsRuns rs (Covers bs) → AreRunsOf rs bs × (length rs ≤ length bs)
known_runs rs bs h =
    let t = runs_of bs in
    let are : AreRunsOf t.runs bs = record { apart = t.apart; cover = t.cover } in
    let same = runs_unique (Covers bs) t.runs rs (runs_from_cover t.runs bs are) h in
    subst (λ x. AreRunsOf x bs × (length x ≤ length bs)) same (are, t.count)

-- the blocks that `validate_sack` wants
pub valid_iff : (bs : Blocks) → AreValid bs ↔ IsApart 2 bs
valid_iff bs = (
  (λ v. apart_first 0 2 bs zero_block (known_runs bs bs v.runs).0.apart
      (λ some. grind (arith, v.first))),
  (λ a. record { runs = runs_from_apart 2 bs a; first = grind (arith, a) }),
)

-- all that is said of cleaned blocks follows from this
pub cleaned_from_cover : {bs rs : Blocks} → All (λ b. b.end ≤ 65535) bs → AreRunsOf rs bs
    → IsCleaned bs rs × CleanedLaws bs rs
cleaned_from_cover {bs} {rs} ends are =
    let runs = runs_from_cover rs bs are in
    -- they are those of the others with the same cover too
    let known = λ (others : Blocks) (e : SameCover others bs).
    known_runs rs others (runs_of_same bs others rs (λ o. ((e o).1, (e o).0)) runs) in (
      runs,
      record {
        cover = cover_same rs bs are.cover;
        offsets = (λ o c. omega (arith, All-contains (λ b. b.end ≤ 65535) bs c.0 ends c.1, c.2.1));
        fewest = (λ others e. (known others e).1);
        own = (λ others e. block_in_each 0 rs others are.apart
            (cover_same rs others (known others e).0.cover));
        unique = (λ others another h. (
          (λ e. runs_unique (Covers others) another rs h
              (runs_from_cover rs others (known others e).0)),
          (λ e. cover_same others bs (cc ((known_runs another others h).0.cover, are.cover, e))),
        ));
        once = (λ again h. runs_unique (Covers rs) again rs h (runs_from_apart 0 rs are.apart));
      },
    )

-- blocks that are apart already
pub cleaned_if_apart : (bs : Blocks) → All (λ b. b.end ≤ 65535) bs → IsApart 2 bs
    → IsCleaned bs bs × CleanedLaws bs bs
cleaned_if_apart bs ends apart = cleaned_from_cover ends
    (record { apart = apart_weaker 0 2 bs (omega arith) apart; cover = refl })
