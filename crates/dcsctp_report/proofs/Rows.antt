-- A row of bytes: a line break, and then printable ASCII.
use Rattle.std.proofs.Common.{◌≡◌, ℕ, suc, ◌+◌, ◌<◌, ◌≤◌, List, [], ◌∷◌, length, set, drop, take, length-set, refl, sym, ap, ◌∙◌, arith}
use Rattle.std.specs.Prelude.{All}
use Rattle.std.proofs.lemmas.List.{take_all}
use Rattle.std.proofs.lemmas.List.Elements.{All-cons, All-weaker, All-set, All-take, All-drop}
use Rattle.dcsctp_report.specs.Hexadecimal.{IsPrintable}

line_break : (text : List ℕ) (n : ℕ) → 0 < length text
    → take (suc n) (set text 0 10) ≡ 10 ∷ take n (drop 1 text)
line_break [] n some = absurd (omega (arith, some))
line_break (first ∷ rest) n some = refl

pub printable_is_ascii : (text : List ℕ) → All IsPrintable text → All (λ b. b < 128) text
printable_is_ascii text all =
    All-weaker IsPrintable (λ b. b < 128) (λ b p. omega (arith, p.1)) text all

pub row_is_ascii : (text : List ℕ) → All IsPrintable text → All (λ b. b < 128) (10 ∷ text)
row_is_ascii text all =
    All-cons (λ b. b < 128) 10 text (omega arith) (printable_is_ascii text all)

-- a row of some bytes, with its bars and its line break
pub after_break : (text : List ℕ) (size : ℕ) → length text ≡ 78 → All IsPrintable text
    → (rest : List ℕ)
    × (take (62 + size) (set (set (set text 60 124) (61 + size) 124) 0 10) ≡ 10 ∷ rest)
    × All IsPrintable rest
after_break text size long all =
    let bar : IsPrintable 124 = (omega arith, omega arith) in
    let barred = set (set text 60 124) (61 + size) 124 in
    let some : 0 < length barred =
    omega (arith, long, length-set text 60 124, length-set (set text 60 124) (61 + size) 124) in
    let more : 62 + size ≡ suc (61 + size) = omega arith in (
      take (61 + size) (drop 1 barred),
      ap (λ n. take n (set barred 0 10)) more ∙ line_break barred (61 + size) some,
      All-take IsPrintable (61 + size) _ (All-drop IsPrintable 1 _
          (All-set IsPrintable _ (61 + size) 124 bar (All-set IsPrintable text 60 124 bar all))),
    )

-- the same of a whole row, which is all of the text
pub whole_row : (text : List ℕ) (size : ℕ) → length text ≡ 78 → size ≡ 16 → All IsPrintable text
    → (rest : List ℕ) × (set (set (set text 60 124) (61 + size) 124) 0 10 ≡ 10 ∷ rest)
    × All IsPrintable rest
whole_row text size long whole all =
    let row = after_break text size long all in
    let barred = set (set text 60 124) (61 + size) 124 in
    let within : length (set barred 0 10) ≤ 62 + size =
    omega (
      arith,
      long,
      whole,
      length-set text 60 124,
      length-set (set text 60 124) (61 + size) 124,
      length-set barred 0 10,
    ) in
    (row.0, sym (take_all (62 + size) (set barred 0 10) within) ∙ row.1, row.2)
