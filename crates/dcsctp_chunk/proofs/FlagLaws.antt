-- Flags that are written are read again.
use Rattle.std.proofs.Common.{◌≡◌, Bool, true, false, [], ◌∷◌, refl}
use Rattle.dcsctp_chunk.specs.Flags.{is_set, flag_byte}

pub one_again : (a : Bool) → is_set (flag_byte (a ∷ [])) 0 ≡ a
one_again true = refl
one_again false = refl

pub four_again : (a b c d : Bool) → let n = flag_byte (a ∷ b ∷ c ∷ d ∷ []) in (is_set n 0 ≡ a)
    × (is_set n 1 ≡ b) × (is_set n 2 ≡ c) × (is_set n 3 ≡ d)
four_again true true true true = (refl, refl, refl, refl)
four_again true true true false = (refl, refl, refl, refl)
four_again true true false true = (refl, refl, refl, refl)
four_again true true false false = (refl, refl, refl, refl)
four_again true false true true = (refl, refl, refl, refl)
four_again true false true false = (refl, refl, refl, refl)
four_again true false false true = (refl, refl, refl, refl)
four_again true false false false = (refl, refl, refl, refl)
four_again false true true true = (refl, refl, refl, refl)
four_again false true true false = (refl, refl, refl, refl)
four_again false true false true = (refl, refl, refl, refl)
four_again false true false false = (refl, refl, refl, refl)
four_again false false true true = (refl, refl, refl, refl)
four_again false false true false = (refl, refl, refl, refl)
four_again false false false true = (refl, refl, refl, refl)
four_again false false false false = (refl, refl, refl, refl)
