-- Lists of blocks that lie apart: their parts, their elements, and a block put among them.
use Rattle.std.proofs.{Common.{◌≡◌, ◌⊎◌, ℕ, zero, suc, ◌+◌, ◌-◌, ◌<◌, ◌≤◌, max, [], ◌∷◌, ◌++◌, length, get_or, take, drop, refl, arith, take-append-drop}, lemmas.Grind.{common_steps, elements}}
use Rattle.dcsctp_chunk.{specs.declared.sack_chunk.GapAckBlock.{GapAckBlock}, specs.Apart.{IsApart, after}, proofs.Covers.{Blocks, zero_block}}

pub apart_weaker : (m n : ℕ) (xs : Blocks) → m ≤ n → IsApart n xs → IsApart m xs
apart_weaker m n [] l a = tt
apart_weaker m n (x ∷ xs) l a = let low = a.0 in (omega arith, a.1, a.2)

pub apart_parts : (n : ℕ) (xs ys : Blocks) → IsApart n (xs ++ ys)
    → IsApart n xs × IsApart (after n xs) ys
apart_parts n [] ys a = (tt, a)
apart_parts n (x ∷ xs) ys a =
    let t = apart_parts (x.end + 2) xs ys a.2 in ((a.0, a.1, t.0), t.1)

pub apart_append : (n : ℕ) (xs ys : Blocks) → IsApart n xs → IsApart (after n xs) ys
    → IsApart n (xs ++ ys)
apart_append n [] ys a b = b
apart_append n (x ∷ xs) ys a b = (a.0, a.1, apart_append (x.end + 2) xs ys a.2 b)

pub after_append : (n : ℕ) (xs ys : Blocks) → after n (xs ++ ys) ≡ after (after n xs) ys
after_append n [] ys = refl
after_append n (x ∷ xs) ys = after_append (x.end + 2) xs ys

-- as early as the first of them starts, they can start
pub apart_first : (n m : ℕ) (xs : Blocks) (d : GapAckBlock) → IsApart n xs
    → (0 < length xs → m ≤ (get_or xs 0 d).start) → IsApart m xs
apart_first n m [] d a l = tt
apart_first n m (x ∷ xs) d a l = (l (omega arith), a.1, a.2)

-- each starts at least 2 past the end of those before it, and does not end before its start
pub apart_at : (n i j : ℕ) (xs : Blocks) (d : GapAckBlock) → IsApart n xs → i ≤ j → j < length xs
    → (after n (take i xs) ≤ (get_or xs j d).start)
    × ((get_or xs j d).start ≤ (get_or xs j d).end)
apart_at n i j [] d a l m = absurd (omega arith)
apart_at n zero zero (x ∷ xs) d a l m = (a.0, a.1)
apart_at n zero (suc j) (x ∷ xs) d a l m =
    grind (arith, a.0, a.1, apart_at (x.end + 2) 0 j xs d a.2)
apart_at n (suc i) zero (x ∷ xs) d a l m = absurd (omega arith)
apart_at n (suc i) (suc j) (x ∷ xs) d a l m =
    apart_at (x.end + 2) i j xs d a.2 (omega arith) (omega arith)

-- what comes after the first k starts 2 past the end of the last of them
after_last : (n k : ℕ) (xs : Blocks) (d : GapAckBlock) → k < length xs
    → after n (take (suc k) xs) ≡ (get_or xs k d).end + 2
after_last n k [] d l = absurd (omega arith)
after_last n zero (x ∷ xs) d l = refl
after_last n (suc k) (x ∷ xs) d l = after_last (x.end + 2) k xs d (omega arith)

pub after_take : (n k : ℕ) (xs : Blocks) → 0 < k → k ≤ length xs
    → after n (take k xs) ≡ (get_or xs (k - 1) zero_block).end + 2
after_take n k xs some l = grind (arith, after_last n (k - 1) xs zero_block)

pub apart_far : (n i j : ℕ) (xs : Blocks) (d : GapAckBlock) → IsApart n xs → i < j → j < length xs
    → (get_or xs i d).end + 2 ≤ (get_or xs j d).start
apart_far n i j xs d a l m =
    rw (← after_last n i xs d (omega arith)) (apart_at n (suc i) j xs d a (omega arith) m).0

-- starts rise, and so do ends
pub apart_order : (n i j : ℕ) (xs : Blocks) (d : GapAckBlock) → IsApart n xs → i ≤ j → j < length xs
    → ((get_or xs i d).start ≤ (get_or xs j d).start) × ((get_or xs i d).end ≤ (get_or xs j d).end)
apart_order n i j xs d a l m =
    grind (arith, apart_far n i j xs d a, apart_at n i i xs d a, apart_at n j j xs d a)

pub after_each : (n i : ℕ) (xs : Blocks) (d : GapAckBlock) → IsApart n xs → i < length xs
    → (get_or xs i d).end + 2 ≤ after n xs
after_each n i xs d a l =
    let last = length xs - 1 in
    grind (arith, common_steps, apart_order n i last xs d a, after_last n last xs d)

-- the blocks past a gap, where the first of them starts late enough
pub past_gap : (xs : Blocks) (low high n : ℕ) (d : GapAckBlock)
    → IsApart 0 (take low xs ++ drop high xs) → (high < length xs → n ≤ (get_or xs high d).start)
    → IsApart n (drop high xs)
past_gap xs low high n d a l =
    apart_first (after 0 (take low xs)) n (drop high xs) d
    (apart_parts 0 (take low xs) (drop high xs) a).1 (λ some. grind (arith, common_steps, elements))

-- a block in the place of those from the first up to the last
pub placed_apart : (xs : Blocks) (b : GapAckBlock) (first last : ℕ) → IsApart 0 xs
    → b.start ≤ b.end → after 0 (take first xs) ≤ b.start
    → (length xs ≤ last) ⊎ (b.end + 2 ≤ (get_or xs last zero_block).start)
    → IsApart 0 (take first xs ++ (b ∷ drop last xs))
placed_apart xs b first last a some l m =
    let front = apart_parts 0 (take first xs) (drop first xs) (rw (take-append-drop first xs) a) in
    let whole : IsApart 0 (take last xs ++ drop last xs) = rw (take-append-drop last xs) a in
    apart_append 0 (take first xs) (b ∷ drop last xs) front.0
    (l, some, past_gap xs last last (b.end + 2) zero_block whole (λ more. grind (arith, m)))

-- a block after the first k
pub apart_push : (xs : Blocks) (b : GapAckBlock) (k : ℕ) → IsApart 0 xs → b.start ≤ b.end
    → k ≤ length xs → (k ≡ 0) ⊎ ((get_or xs (k - 1) zero_block).end + 2 ≤ b.start)
    → IsApart 0 (take k xs ++ (b ∷ []))
apart_push xs b k a some l m =
    grind (arith, common_steps, after_take 0 k xs, placed_apart xs b k (length xs) a some)

-- what starts late enough for either end
pub apart_max : (l m n : ℕ) (xs : Blocks) → l ≤ max m n → IsApart m xs → IsApart n xs → IsApart l xs
apart_max l m n [] k a b = tt
apart_max l m n (x ∷ xs) k a b = (grind (arith, a.0, b.0), a.1, a.2)
