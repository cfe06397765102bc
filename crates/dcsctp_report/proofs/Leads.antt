-- The size of a character, by its first byte.
use Rattle.std.proofs.Common.{◌≡◌, ℕ, ◌+◌, ◌/◌, ◌≤◌, ◌<◌, true, List, [], ◌∷◌, ◌++◌, inl, inr, length, get_or, sym, subst, arith}
use Rattle.std.specs.Prelude.{IsUtf8}
use Rattle.std.proofs.lemmas.Bool.{cases_lt}
use Rattle.std.proofs.lemmas.Bool.Decides.{nat_tests}
use Rattle.std.proofs.str.Laws.{one, two, three, four}
use lib.Utf8.{encode, encodes, scalar}
use Rattle.dcsctp_report.specs.Printed.{size_from}

size_one : (byte : ℕ) → byte < 128 → size_from byte ≡ 1
size_one byte h = grind (arith, nat_tests)

size_two : (byte : ℕ) → 128 ≤ byte → byte < 224 → size_from byte ≡ 2
size_two byte low high = grind (arith, nat_tests)

size_three : (byte : ℕ) → 224 ≤ byte → byte < 240 → size_from byte ≡ 3
size_three byte low high = grind (arith, nat_tests)

size_four : (byte : ℕ) → 240 ≤ byte → size_from byte ≡ 4
size_four byte low = grind (arith, nat_tests)

pub size_from_pos : (byte : ℕ) → 0 < size_from byte
size_from_pos byte = elim (cases_lt byte 128) [
  | inl a ↦ omega (arith, size_one byte a)
  | inr a ↦ elim (cases_lt byte 224) [
    | inl b ↦ omega (arith, size_two byte a b)
    | inr b ↦ elim (cases_lt byte 240) [
      | inl d ↦ omega (arith, size_three byte b d)
      | inr d ↦ omega (arith, size_four byte d)
    ]
  ]
]

pub lead_size : (c : ℕ) (rest : List ℕ) → scalar c ≡ true
    → size_from (get_or (encode c ++ rest) 0 0) ≡ length (encode c)
lead_size c rest ok = elim (cases_lt c 128) [
  | inl a ↦ rw (one c a) (size_one c a)
  | inr a ↦ elim (cases_lt c 2048) [
    | inl b ↦ rw (two c a b) (size_two (192 + c / 64) (omega arith) (omega arith))
    | inr b ↦ elim (cases_lt c 65536) [
      | inl d ↦ rw (three c b d) (size_three (224 + c / 4096) (omega arith) (omega arith))
      | inr d ↦ rw (four c d) (size_four (240 + c / 262144) (omega arith))
    ]
  ]
]

-- a character that isn't ASCII goes on after its first byte
abbrev pub GoesOn : List ℕ → Type 0
GoesOn bytes = (192 ≤ get_or bytes 0 0) × (128 ≤ get_or bytes 1 0) × (get_or bytes 1 0 < 192)

character_goes_on : (c : ℕ) (rest : List ℕ) → 128 ≤ get_or (encode c ++ rest) 0 0
    → GoesOn (encode c ++ rest)
character_goes_on c rest high = elim (cases_lt c 128) [
  | inl a ↦
      let first : 128 ≤ c = subst (λ l. 128 ≤ get_or (l ++ rest) 0 0) (one c a) high in
      absurd (omega arith)
  | inr a ↦ elim (cases_lt c 2048) [
    | inl b ↦ subst (λ l. GoesOn (l ++ rest)) (sym (two c a b))
        (omega arith, omega arith, omega arith)
    | inr b ↦ elim (cases_lt c 65536) [
      | inl d ↦ subst (λ l. GoesOn (l ++ rest)) (sym (three c b d))
          (omega arith, omega arith, omega arith)
      | inr d ↦ subst (λ l. GoesOn (l ++ rest)) (sym (four c d))
          (omega arith, omega arith, omega arith)
    ]
  ]
]

pub goes_on : (bytes : List ℕ) → IsUtf8 bytes → 128 ≤ get_or bytes 0 0 → GoesOn bytes
goes_on bytes u high = subst GoesOn u.1.1 (of_these u.0 (subst (λ l. 128 ≤ get_or l 0 0)
    (sym u.1.1) high))
  where
    of_these : (cs : List ℕ) → 128 ≤ get_or (encodes cs) 0 0 → GoesOn (encodes cs)
    of_these [] h = absurd (omega arith)
    of_these (c ∷ ds) h = character_goes_on c (encodes ds) h
