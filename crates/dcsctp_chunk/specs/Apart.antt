-- What the steps of the cleaning say of neighbouring blocks (RFC 9260 section 3.3.4): for private
-- functions alone, whose contracts can cite nothing but specs/.
use Rattle.std.specs.{Prelude.{◌≡◌, ℕ, ◌+◌, ◌-◌, ◌<◌, ◌≤◌, Bool, ◌&&◌, nat_le, List, [], ◌∷◌, ◌++◌, slice_index_or, take, drop}, List.{All, list_any}, List.Sorted.{IsPartitionPoint}}
use Rattle.dcsctp_chunk.specs.declared.{sack_chunk.GapAckBlock.{GapAckBlock}, chunk_validators.clean.Counts.{Counts}, chunk_validators.runs.Gap.{Gap}, chunk_validators.runs.Place.{Place}}

-- no block ends before its start, the first starts at low or later, and each later one at least 2
-- past the end before it
abbrev pub IsApart : ℕ → List GapAckBlock → Type 0
IsApart low [] = Unit {0}
IsApart low (b ∷ bs) = (low ≤ b.start) × (b.start ≤ b.end) × IsApart (b.end + 2) bs

-- where a block can start after such blocks: at low where there are none, else 2 past the last end
abbrev pub after : ℕ → List GapAckBlock → ℕ
after low [] = low
after low (b ∷ bs) = after (b.end + 2) bs

-- the set of the offsets that the blocks cover, as a test
unfoldable pub covered : List GapAckBlock → ℕ → Bool
covered blocks o = list_any (λ b. nat_le b.start o && nat_le o b.end) blocks

-- the runs of what the blocks cover: they lie apart, and cover the same
pub record AreRunsOf (runs blocks : List GapAckBlock) : Type 0 where
  pub apart : IsApart 0 runs
  pub cover : covered runs ≡ covered blocks

-- the recent runs and those in front
abbrev pub both : Counts → List GapAckBlock → List GapAckBlock → List GapAckBlock
both counts recent front = take counts.recent recent ++ take counts.front front

-- the runs on both sides of the gap
abbrev pub around : Gap → List GapAckBlock → List GapAckBlock
around gap runs = take gap.low runs ++ drop gap.high runs

-- the runs with that of the place in the place of those that it takes in
abbrev pub placed : Place → List GapAckBlock → List GapAckBlock
placed place runs = take place.first runs ++ (place.run ∷ drop place.last runs)

-- each ends last, as what a free place holds
abbrev pub AreFree : List GapAckBlock → Type 0
AreFree blocks = All (λ b. b.end ≡ 65535) blocks

-- the runs before the i-th end too early for a block that starts at n, and those from it on do not
abbrev pub IsReachedAt : ℕ → ℕ → List GapAckBlock → Type 0
IsReachedAt n i runs = IsPartitionPoint (λ r. r.end + 1 < n) (λ r. n ≤ r.end + 1) runs i

-- the last of the first k runs, if any, starts at n or earlier
abbrev pub LastStartsBy : ℕ → ℕ → List GapAckBlock → Type 0
LastStartsBy n k runs = (d : GapAckBlock) → 0 < k → (slice_index_or runs (k - 1) d).start ≤ n
