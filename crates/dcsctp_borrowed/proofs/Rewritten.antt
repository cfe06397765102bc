-- An item is written again of its own bytes: number by number, field by field, and list by list.
use Rattle.std.{proofs.Common.{◌≡◌, ℕ, zero, suc, ◌+◌, ◌*◌, ◌≤◌, List, [], ◌∷◌, ◌++◌, length, take, drop, refl, sym, ap, ap₂, ◌∙◌, arith, inl, inr, mul-zero, mul-suc, get_or-take, length-take, length-drop}, specs.Int.{w16, w32, to_be_bytes}, specs.List.{flat_map}, proofs.Math.Seq.{take-add}, proofs.lemmas.Bool.{cases_lt}, proofs.lemmas.List.{get_or_past}, proofs.lemmas.Nat.{be_bytes_2, be_bytes_4}}
use Rattle.dcsctp_tlv.{specs.Frame.{Item}, specs.Fields.{fields}, specs.Format.{flagged_tlv}, specs.Image.{solid, solid_tlv, typed_tlv}, specs.Length.{length-solid}, specs.Number.{AreBytes, number16, number32}, specs.Typed.{item_type}, proofs.FieldLaws.{fields-first}}
use Rattle.dcsctp_borrowed.{specs.Rewritten.{IsByteItem}, proofs.FrameItems.{bytes_after}}

-- ---- numbers and fields

pub first_bytes : (n : ℕ) (bytes : List ℕ) → AreBytes bytes → AreBytes (take n bytes)
first_bytes n bytes fits i = elim (cases_lt i n) [
  | inl lt ↦ rw (get_or-take n bytes i 0 lt) (fits i)
  | inr le ↦ rw (get_or_past (take n bytes) i 0 (omega (arith, length-take n bytes))) (omega arith)
]

-- a number is written as the bytes that it was read from
pub word_again : (bytes : List ℕ) → 4 ≤ length bytes → AreBytes bytes
    → to_be_bytes w32 (number32 bytes) ≡ take 4 bytes
word_again bytes size fits =
    be_bytes_4 (take 4 bytes) (number32 bytes) (omega (arith, length-take 4 bytes))
    (first_bytes 4 bytes fits) refl

pub half_again : (bytes : List ℕ) → 2 ≤ length bytes → AreBytes bytes
    → to_be_bytes w16 (number16 bytes) ≡ take 2 bytes
half_again bytes size fits =
    be_bytes_2 (take 2 bytes) (number16 bytes) (omega (arith, length-take 2 bytes))
    (first_bytes 2 bytes fits) refl

-- so are fields of one size in a row, if each is
pub fields_again : {A : Type 0} (read : List ℕ → A) (write : A → List ℕ) (size : ℕ)
    → ((bytes : List ℕ) → size ≤ length bytes → AreBytes bytes
    → write (read bytes) ≡ take size bytes)
    → (count : ℕ) (bytes : List ℕ) → size * count ≤ length bytes → AreBytes bytes
    → flat_map write (fields read size count bytes) ≡ take (size * count) bytes
fields_again read write size law zero bytes room fits = rw (mul-zero size) refl
fields_again read write size law (suc n) bytes room fits =
    let more : size * suc n ≡ size + size * n = omega (arith, mul-suc size n) in
    let left : size * n ≤ length (drop size bytes) =
    omega (arith, length-drop size bytes, more, room) in
    ap (flat_map write) (fields-first read size n bytes)
    ∙ ap₂ (λ a b. a ++ b) (law bytes (omega (arith, more, room)) fits)
    (fields_again read write size law n (drop size bytes) left (bytes_after size bytes fits))
    ∙ sym (ap (λ (k : ℕ). take k bytes) more ∙ take-add size (size * n) bytes)

-- and so they are where each is rewritten
pub fields_rewritten : {A : Type 0} (read : List ℕ → A) (write : A → List ℕ)
    (again : List ℕ → List ℕ) (size : ℕ)
    → ((bytes : List ℕ) → size ≤ length bytes → AreBytes bytes → write (read bytes) ≡ again bytes)
    → (count : ℕ) (bytes : List ℕ) → size * count ≤ length bytes → AreBytes bytes
    → flat_map write (fields read size count bytes)
    ≡ flat_map (λ s. s) (fields again size count bytes)
fields_rewritten read write again size law zero bytes room fits = refl
fields_rewritten read write again size law (suc n) bytes room fits =
    let more : size * suc n ≡ size + size * n = omega (arith, mul-suc size n) in
    let left : size * n ≤ length (drop size bytes) =
    omega (arith, length-drop size bytes, more, room) in
    ap (flat_map write) (fields-first read size n bytes)
    ∙ ap₂ (λ a b. a ++ b) (law bytes (omega (arith, more, room)) fits)
    (fields_rewritten read write again size law n (drop size bytes) left
    (bytes_after size bytes fits))
    ∙ sym (ap (flat_map (λ s. s)) (fields-first again size n bytes))

-- ---- items

-- a value of these bytes, whose size is counted
pub same_tlv : (first second size : ℕ) (bytes value : List ℕ) → length (solid bytes) ≡ size
    → bytes ≡ value → flagged_tlv first second size bytes ≡ solid_tlv first second value
same_tlv first second size bytes value sized is =
    ap (λ (n : ℕ). flagged_tlv first second n bytes) (sym sized ∙ length-solid bytes)
    ∙ ap (λ (b : List ℕ). solid_tlv first second b) is

pub none : (value : List ℕ) → length value ≡ 0 → [] ≡ value
none [] e = refl
none (x ∷ xs) e = absurd (omega (arith, e))

-- the type in both bytes
pub typed_is : (i : Item) → IsByteItem i → (value : List ℕ)
    → typed_tlv (item_type i) value ≡ solid_tlv i.first i.second value
typed_is i fits value =
    ap₂ (λ (a b : ℕ). solid_tlv a b value) (omega (arith, fits.first, fits.second))
    (omega (arith, fits.first, fits.second))
