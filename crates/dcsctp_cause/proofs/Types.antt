-- The types of missing parameters, as they are written.
use Rattle.std.{proofs.Common.{◌≡◌, ℕ, ◌+◌, ◌*◌, List, [], ◌∷◌, ◌++◌, length, refl, arith}, specs.Int.{w16, w32}}
use Rattle.dcsctp_tlv.{specs.Number.{numbers}, proofs.Puts.{length-numbers}}

pub size_of_types : (types : List ℕ) → length (numbers w16 types) ≡ 2 * length types
size_of_types types = length-numbers w16 2 types (λ n. refl)

abbrev pub bytes_of_types : List ℕ → List ℕ
bytes_of_types types = numbers w32 (length types ∷ []) ++ numbers w16 types

pub length-bytes_of_types : (types : List ℕ) → length (bytes_of_types types) ≡ 4 + 2 * length types
length-bytes_of_types types = omega (arith, size_of_types types)
