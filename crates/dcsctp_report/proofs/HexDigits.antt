-- The digits of bytes, one byte after the other.
use Rattle.std.proofs.Common.{◌≡◌, ℕ, ◌+◌, ◌*◌, ◌<◌, List, [], ◌∷◌, ◌++◌, length, get_or, set, take, sym, ap, ◌∙◌, append_assoc, append-nil, length-set, arith}
use Rattle.std.proofs.lemmas.List.{take_more, take_more_set}
use Rattle.std.proofs.lemmas.Grind.{flat_map-append}
use Rattle.dcsctp_report.specs.Hexadecimal.{two_digits, digits_of}

-- two digits more
pub digits_more : (digits block : List ℕ) (i high low : ℕ) → 2 * i + 1 < length digits
    → i < length block
    → high ∷ low ∷ [] ≡ two_digits (get_or block i 0)
    → take (2 * i) digits ≡ digits_of (take i block)
    → take (2 * (i + 1)) (set (set digits (2 * i) high) (2 * i + 1) low)
    ≡ digits_of (take (i + 1) block)
digits_more digits block i high low inside lt two so_far =
    let twice : 2 * (i + 1) ≡ 2 * i + 1 + 1 = omega arith in
    let fits : 2 * i < length digits = omega arith in
    let fits_too : 2 * i + 1 < length (set digits (2 * i) high) = omega (arith, length-set digits (2 * i) high) in
    ap (λ n. take n (set (set digits (2 * i) high) (2 * i + 1) low)) twice
    ∙ take_more_set (set digits (2 * i) high) (2 * i + 1) low fits_too
    ∙ ap (λ l. l ++ low ∷ []) (take_more_set digits (2 * i) high fits)
    ∙ append_assoc (take (2 * i) digits) (high ∷ []) (low ∷ [])
    ∙ ap (λ l. l ++ high ∷ low ∷ []) so_far
    ∙ ap (λ l. digits_of (take i block) ++ l) (two ∙ sym (append-nil (two_digits
    (get_or block i 0))))
    ∙ sym (flat_map-append two_digits (take i block) (get_or block i 0 ∷ []))
    ∙ ap digits_of (sym (take_more block i 0 lt))
