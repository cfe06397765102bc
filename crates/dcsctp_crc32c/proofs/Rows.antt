-- The tables hold what the definition gives: each entry is computed.
use Rattle.std.proofs.Common.{◌≡◌, ◌∙◌, ℕ, zero, suc, ◌+◌, ◌*◌, ◌^◌, ◌<◌, List, [], ◌∷◌, get_or, arith, refl, ap}
use Rattle.dcsctp_crc32c.specs.Checksum.{after_bits}
use Rattle.dcsctp_crc32c.specs.declared.tables.TheConstants.{TABLES}

-- a row of the register after n bits, from the register i on
row : ℕ → ℕ → ℕ → List ℕ
row n i zero = []
row n i (suc count) = after_bits n i ∷ row n (suc i) count

rows : ℕ → ℕ → List (List ℕ)
rows n zero = []
rows n (suc count) = row n 0 256 ∷ rows (n + 8) count

tables_are : TABLES ≡ rows 8 16
unfolding rows row after_bits
tables_are = refl

get_or-row : (n i count j : ℕ) → j < count → get_or (row n i count) j 0 ≡ after_bits n (i + j)
unfolding row
get_or-row n i zero j below = absurd (omega arith)
get_or-row n i (suc count) zero below = let e : i ≡ i + zero = omega arith in ap (after_bits n) e
get_or-row n i (suc count) (suc j) below =
    let e : suc i + j ≡ i + suc j = omega arith in
    get_or-row n (suc i) count j (omega arith) ∙ ap (after_bits n) e

get_or-rows : (n count k : ℕ) (none : List ℕ) → k < count → get_or (rows n count) k none
    ≡ row (n + 8 * k) 0 256
unfolding rows
get_or-rows n zero k none below = absurd (omega arith)
get_or-rows n (suc count) zero none below = let e : n ≡ n + 8 * zero =
    omega arith in ap (λ m. row m 0 256) e
get_or-rows n (suc count) (suc k) none below =
    let e : n + 8 + 8 * k ≡ n + 8 * suc k = omega arith in
    get_or-rows (n + 8) count k none (omega arith) ∙ ap (λ m. row m 0 256) e

pub table_entry : (k byte : ℕ) (none : List ℕ) → k < 16 → byte < 2 ^ 8
    → get_or (get_or TABLES k none) byte 0 ≡ after_bits (8 * (k + 1)) byte
table_entry k byte none small fits =
    let n : 8 + 8 * k ≡ 8 * (k + 1) = omega arith in
    ap (λ t. get_or (get_or t k none) byte 0) tables_are
    ∙ ap (λ r. get_or r byte 0) (get_or-rows 8 16 k none small)
    ∙ get_or-row (8 + 8 * k) 0 256 byte fits
    ∙ (let b : 0 + byte ≡ byte = omega arith in λ i. after_bits (n i) (b i))
