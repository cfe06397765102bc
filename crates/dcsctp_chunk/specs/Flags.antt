-- The bits of a chunk's flags, from the lowest (RFC 9260 section 3.2).
use Rattle.std.specs.{Prelude.{ℕ, ◌+◌, ◌*◌, Bool, ◌==◌, if◌then◌else◌, List, [], ◌∷◌}, Int.{bit_at}}

abbrev pub is_set : ℕ → ℕ → Bool
is_set flags bit = bit_at flags bit == 1

-- the byte with these bits, the lowest first
abbrev pub flag_byte : List Bool → ℕ
flag_byte [] = 0
flag_byte (b ∷ bs) = (if b then 1 else 0) + 2 * flag_byte bs
