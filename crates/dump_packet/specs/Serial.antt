-- TSNs are serial numbers of 32 bits (RFC 9260 section 2.6).
use Rattle.std.specs.Prelude.{◌+◌, ◌-◌, ◌%◌, ◌^◌, ◌<◌, ℕ}

-- how far a TSN is after another
abbrev pub ahead : ℕ → ℕ → ℕ
ahead other tsn = (tsn + (2 ^ 32 - other)) % 2 ^ 32

-- less than half of the circle after it
abbrev pub IsAfter : ℕ → ℕ → Type 0
IsAfter other tsn = (0 < ahead other tsn) × (ahead other tsn < 2 ^ 31)
