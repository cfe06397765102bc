-- Times counted by buckets, of which eight are an octave.
use Rattle.std.specs.Prelude.{◌≡◌, ◌⊎◌, ◌+◌, ◌-◌, ◌*◌, ◌/◌, ◌^◌, ◌<◌, ◌≤◌, ℕ, List, take, min, max, sum, slice_index, slice_set}

-- the width of a bucket, and the least time in it, in units
abbrev pub width_of : ℕ → ℕ
width_of bucket = 2 ^ (bucket / 8 - 1)

abbrev pub least_of : ℕ → ℕ
least_of bucket = (bucket - 8 * (bucket / 8 - 1)) * width_of bucket

-- A time is in the bucket that begins last of those that begin up to it; there are 192.
abbrev pub IsIn : ℕ → ℕ → Type 0
IsIn units bucket =
    (bucket < 192) × (least_of bucket ≤ units) × (bucket < 191 → units < least_of (bucket + 1))

-- Its bucket has one more, up to 2^32 - 1, and the others have as many as before.
abbrev pub CountsOneIn : ℕ → List ℕ → List ℕ → Type 0
CountsOneIn units before after = (bucket : ℕ) × IsIn units bucket
    × (after ≡ slice_set before bucket (min (slice_index before bucket + 1) (2 ^ 32 - 1)))

-- the half of them, rounded up, lies in the buckets up to this one, and not in those before it
abbrev pub HoldsMedian : List ℕ → ℕ → ℕ → Type 0
HoldsMedian buckets count bucket =
    (sum (take bucket buckets) < (count + 1) / 2)
    × ((count + 1) / 2 ≤ sum (take (bucket + 1) buckets))

-- the middle of that bucket, within the least and the greatest; of the last one the greatest
abbrev pub IsMedian : List ℕ → ℕ → ℕ → ℕ → ℕ → Type 0
IsMedian buckets count least greatest median =
    ((bucket : ℕ) × (bucket < 191) × HoldsMedian buckets count bucket
    × (median ≡ min greatest (max least (1024 * least_of bucket + 512 * width_of bucket))))
    ⊎ ((sum (take 191 buckets) < (count + 1) / 2) × (median ≡ greatest))
