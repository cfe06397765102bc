-- Runs as the walks and the joins leave them, and where they lie in memory.
use Rattle.std.{proofs.Common.{◌≡◌, ℕ, ◌+◌, ◌-◌, ◌<◌, ◌≤◌, max, List, ◌∷◌, ◌++◌, length, get_or, set, take, drop, ltb, arith, take-append-drop, drop-drop, take-take, get_or-drop, get_or-take, length-drop, length-take-le, length-set, get_or-set_other}, specs.List.{copy_within, CopiedTo, SameFrom}, specs.List.Sorted.{IsPartitionedBy}, proofs.Math.Seq.{take-add, take-append-add, take-set-lt}, proofs.lemmas.Bool.Decides.{nat_tests}, proofs.lemmas.Grind.{common_steps}, proofs.lemmas.List.{take-append-le, drop-take, set-append_left}}
use Rattle.dcsctp_chunk.{specs.declared.sack_chunk.GapAckBlock.{GapAckBlock}, specs.Apart.{IsApart, AreFree, AreRunsOf, after, covered}, proofs.Covers.{Blocks, covers, cover_append}, proofs.Apart.{apart_append, apart_max, apart_order, apart_parts}}

-- what is covered where a block lies in the place of those from the first up to the last
pub placed_cover : (xs : Blocks) (b run : GapAckBlock) (first last : ℕ)
    → covered (run ∷ drop last xs) ≡ covered (b ∷ drop first xs)
    → covered (take first xs ++ (run ∷ drop last xs)) ≡ covered (b ∷ xs)
placed_cover xs b run first last e = grind (arith, covers, take-append-drop first xs)

-- runs placed below a gap
pub below_gap : (low high placed : Blocks) (b : GapAckBlock) → IsApart 0 (low ++ high)
    → IsApart (b.end + 2) high → AreRunsOf placed (b ∷ low)
    → after 0 placed ≤ max (b.end + 2) (after 0 low)
    → AreRunsOf (placed ++ high) (b ∷ (low ++ high))
below_gap low high placed b a d p l = record {
  apart = apart_append 0 placed high p.apart
      (apart_max (after 0 placed) (b.end + 2) (after 0 low) high l d (apart_parts 0 low high a).1);
  cover = cc (cover_append placed high, p.cover, cover_append (b ∷ low) high);
}

-- what moves from below a gap to its other side
pub lifted : (xs : Blocks) (low high count : ℕ) → count ≤ low → low ≤ high → high ≤ length xs
    → take (low - count) (copy_within xs (low - count) low (high - count))
    ++ drop (high - count) (copy_within xs (low - count) low (high - count))
    ≡ take low xs ++ drop high xs
lifted xs low high count l m n = grind (arith, common_steps, take-add (low - count) count xs)

-- a free place ends last
pub free_end : (xs : Blocks) (kept k : ℕ) (d : GapAckBlock) → kept ≤ k → k < length xs
    → AreFree (drop kept xs) → (get_or xs k d).end ≡ 65535
free_end xs kept k d l m f =
    grind (arith, get_or-drop kept xs (k - kept) d, f (k - kept) d, length-drop kept xs)

-- so the free places change nothing for a search
pub parted_kept : (xs : Blocks) (kept n : ℕ) → n ≤ 65535 → kept ≤ length xs
    → IsApart 0 (take kept xs) → AreFree (drop kept xs) → IsPartitionedBy (λ b. ltb b.end n) xs
parted_kept xs kept n m l a f i j d le lt e =
    grind (
      arith,
      nat_tests,
      e,
      free_end xs kept j d,
      apart_order 0 i j (take kept xs) d a,
      length-take-le kept xs,
      get_or-take kept xs i d,
      get_or-take kept xs j d,
    )

pub copy_nowhere : {X : Type 0} (xs : List X) (i j : ℕ) → i ≤ j → xs ≡ copy_within xs i j i
copy_nowhere xs i j l =
    grind (
      arith,
      common_steps,
      drop-drop (j - i) i xs,
      take-append-drop (j - i) (drop i xs),
      take-append-drop i xs,
    )

copied : (xs : Blocks) (i j n dest : ℕ) → n ≤ j - i → i + n ≤ length xs → dest ≤ length xs
    → take (dest + n) (copy_within xs i j dest) ≡ take dest xs ++ take n (drop i xs)
copied xs i j n dest l m k =
    let moved = take (j - i) (drop i xs) in
    let rest = drop (dest + (j - i)) xs in
    grind (
      arith,
      common_steps,
      take-append-add (take dest xs) (moved ++ rest) n,
      take-append-le n moved rest,
      take-take n (j - i) (drop i xs),
    )

written : (xs ys : Blocks) (i : ℕ) (b : GapAckBlock) → i < length xs
    → set (take (i + 1) xs ++ ys) i b ≡ take i xs ++ (b ∷ ys)
written xs ys i b l =
    let before = take (i + 1) xs in
    grind (arith, common_steps, set-append_left before ys i b, take-set-lt (i + 1) xs i b)

pub put_run : (xs : Blocks) (run : GapAckBlock) (first last kept end : ℕ)
    → first ≤ last → last ≤ kept → kept ≤ end → end < length xs
    → take (first + 1 + (kept - last)) (set (copy_within xs last end (first + 1)) first run)
    ≡ take first (take kept xs) ++ (run ∷ drop last (take kept xs))
put_run xs run first last kept end k l m n =
    let moved = take (kept - last) (drop last xs) in
    grind (
      arith,
      take-set-lt (first + 1 + (kept - last)) (copy_within xs last end (first + 1)) first run,
      copied xs last end (kept - last) (first + 1),
      written xs moved first run,
      drop-take last (kept - last) xs,
      take-take first kept xs,
    )

-- where as many runs lie there as before, or one more, the places after them are free
pub put_free : (xs after : Blocks) (run : GapAckBlock) (first last kept end : ℕ) → first ≤ last
    → last ≤ kept → kept ≤ end → AreFree (drop kept xs) → length after ≡ length xs
    → CopiedTo xs after last (first + 1) (end - last) → SameFrom xs after (first + 1 + (end - last))
    → kept ≤ first + 1 + (kept - last)
    → AreFree (drop (first + 1 + (kept - last)) (set after first run))
put_free xs after run first last kept end k l m f n moved rest s i d t =
    let count = first + 1 + (kept - last) in
    let at = count + i in
    grind (
      arith,
      get_or-drop count (set after first run) i d,
      length-drop count (set after first run),
      length-set after first run,
      get_or-set_other after first at run d,
      moved at d,
      rest at d,
      free_end xs kept at d,
      free_end xs kept (at - 1) d,
    )
