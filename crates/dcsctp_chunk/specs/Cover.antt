-- What gap ack blocks cover (RFC 9260 section 3.3.4): offsets above the cumulative TSN, and the
-- runs of such a set.
use Rattle.std.specs.{Prelude.{◌≡◌, ◌↔◌, ℕ, ◌<◌, ◌≤◌, List, [], ◌∷◌, length, slice_index_or}, List.{Contains}}
use Rattle.dcsctp_chunk.specs.declared.sack_chunk.GapAckBlock.{GapAckBlock}

-- the offset lies in the block; in one that ends before its start lies none
abbrev pub IsWithin : GapAckBlock → ℕ → Type 0
IsWithin b o = (b.start ≤ o) × (o ≤ b.end)

-- the offset lies in some block
abbrev pub Covers : List GapAckBlock → ℕ → Type 0
Covers blocks o = (b : GapAckBlock) × Contains blocks b × IsWithin b o

-- the two lists cover the same offsets
abbrev pub SameCover : List GapAckBlock → List GapAckBlock → Type 0
SameCover blocks others = (o : ℕ) → Covers blocks o ↔ Covers others o

-- each offset from low to high is in the set
abbrev pub IsInside : (ℕ → Type 0) → ℕ → ℕ → Type 0
IsInside P low high = (o : ℕ) → low ≤ o → o ≤ high → P o

-- a nonempty interval inside the set that no longer interval inside the set contains
pub record IsRun (P : ℕ → Type 0) (r : GapAckBlock) : Type 0 where
  pub some : r.start ≤ r.end
  pub inside : IsInside P r.start r.end
  pub longest : (low high : ℕ) → low ≤ r.start → r.end ≤ high → IsInside P low high
      → (low ≡ r.start) × (high ≡ r.end)

-- by rising start, exactly the runs of the set
pub record IsRuns (runs : List GapAckBlock) (P : ℕ → Type 0) : Type 0 where
  pub rising : (i j : ℕ) (d : GapAckBlock) → i < j → j < length runs
      → (slice_index_or runs i d).start < (slice_index_or runs j d).start
  pub each : (r : GapAckBlock) → Contains runs r → IsRun P r
  pub all : (r : GapAckBlock) → IsRun P r → Contains runs r

-- in each run lies a nonempty block of the list
abbrev pub HasBlockInEach : List GapAckBlock → List GapAckBlock → Type 0
HasBlockInEach runs blocks = (r : GapAckBlock) → Contains runs r
    → (b : GapAckBlock) × Contains blocks b × (r.start ≤ b.start) × (b.start ≤ b.end)
    × (b.end ≤ r.end)

-- the first block, if any, starts past n
abbrev pub StartsPast : ℕ → List GapAckBlock → Type 0
StartsPast n [] = Unit {0}
StartsPast n (b ∷ bs) = n < b.start

-- The blocks are the runs of what they cover, and the first, if any, starts at 2 or later: the
-- offset 1 is that of the first missing TSN.
pub record AreValid (blocks : List GapAckBlock) : Type 0 where
  pub runs : IsRuns blocks (Covers blocks)
  pub first : StartsPast 1 blocks

-- what a list of blocks becomes when it is cleaned: the runs of the offsets that it covers
abbrev pub IsCleaned : List GapAckBlock → List GapAckBlock → Type 0
IsCleaned blocks cleaned = IsRuns cleaned (Covers blocks)

-- what follows from that
pub record CleanedLaws (blocks cleaned : List GapAckBlock) : Type 0 where
  pub cover : SameCover cleaned blocks
  pub offsets : (o : ℕ) → Covers blocks o → o ≤ 65535
  -- No list with the same cover is shorter, and each run holds a block of its own of any such list.
  pub fewest : (others : List GapAckBlock) → SameCover others blocks
      → length cleaned ≤ length others
  pub own : (others : List GapAckBlock) → SameCover others blocks → HasBlockInEach cleaned others
  -- Exactly the lists with the same cover have the same runs.
  pub unique : (others runs : List GapAckBlock) → IsRuns runs (Covers others)
      → SameCover others blocks ↔ (runs ≡ cleaned)
  -- Cleaned again they stay as they are.
  pub once : (again : List GapAckBlock) → IsRuns again (Covers cleaned) → again ≡ cleaned
