-- Records: no bytes begin with two, so bytes are one list of them at most.
use Rattle.std.proofs.Common.{◌≡◌, ◌+◌, ◌-◌, ◌<◌, ◌≤◌, ◌⊎◌, inl, inr, ℕ, List, [], ◌∷◌, ◌++◌, length, get_or, take, drop, refl, sym, ap, subst, ◌∙◌, append_assoc, arith}
use Rattle.std.specs.Int.{w32, from_be_bytes, from_le_bytes}
use Rattle.std.specs.List.{flat_map}
use Rattle.std.proofs.Math.Seq.{take-add}
use Rattle.std.proofs.lemmas.List.{length-append, length-take, length-drop, get_or-drop, get_or-take, take_at, drop_at, drop-drop, get_or_past, take_all}
use Rattle.std.proofs.lemmas.Bool.{cases_lt}
use Rattle.std.proofs.lemmas.Nat.{from_be_bytes-to_be_bytes_4, from_le_bytes-to_le_bytes_4, be_bytes_4, le_bytes_4}
use Rattle.dump_capture.specs.Number.{number_in, number_bytes}
use Rattle.dump_capture.specs.Pcap.{Record, Fits, record_bytes, captured_length, BeginsWithRecord, AreRecords}
use Rattle.dump_capture.specs.declared.pcap.ByteOrder.{ByteOrder}
use Rattle.dump_capture.specs.declared.pcap.ByteOrder.TheVariants.{BigEndian, LittleEndian}

-- what is read from the front of a record's bytes
pub record ReadsBack (order : ByteOrder) (r : Record) (bytes more : List ℕ) : Type 0 where
  pub seconds : number_in order w32 bytes ≡ r.seconds
  pub fraction : number_in order w32 (drop 4 bytes) ≡ r.fraction
  pub captured : captured_length order bytes ≡ length r.frame
  pub original : number_in order w32 (drop 12 bytes) ≡ r.original_length
  pub size : length bytes ≡ 16 + length (r.frame ++ more)
  pub rest : drop 16 bytes ≡ r.frame ++ more

pub reads_back : (order : ByteOrder) (r : Record) (more : List ℕ) → Fits r
    → ReadsBack order r (record_bytes order r ++ more) more
reads_back BigEndian r more fits = record {
  seconds = from_be_bytes-to_be_bytes_4 r.seconds fits.seconds;
  fraction = from_be_bytes-to_be_bytes_4 r.fraction fits.fraction;
  captured = from_be_bytes-to_be_bytes_4 (length r.frame) fits.captured;
  original = from_be_bytes-to_be_bytes_4 r.original_length fits.original;
  size = omega arith;
  rest = refl;
}
reads_back LittleEndian r more fits = record {
  seconds = from_le_bytes-to_le_bytes_4 r.seconds fits.seconds;
  fraction = from_le_bytes-to_le_bytes_4 r.fraction fits.fraction;
  captured = from_le_bytes-to_le_bytes_4 (length r.frame) fits.captured;
  original = from_le_bytes-to_le_bytes_4 r.original_length fits.original;
  size = omega arith;
  rest = refl;
}

-- so no bytes begin with two records
pub record_one : (order : ByteOrder) (r s : Record) (x y : List ℕ) → Fits r → Fits s
    → record_bytes order r ++ x ≡ record_bytes order s ++ y → (r ≡ s) × (x ≡ y)
record_one order r s x y p q e =
    let a = reads_back order r x p in
    let b = subst (λ (bytes : List ℕ). ReadsBack order s bytes y) (sym e) (reads_back order s y q)
    in
    let sizes : length r.frame ≡ length s.frame = sym a.captured ∙ b.captured in
    let tails : r.frame ++ x ≡ s.frame ++ y = sym a.rest ∙ b.rest in
    let frames = same_front r.frame s.frame x y sizes tails in (
      made r s (sym a.seconds ∙ b.seconds) (sym a.fraction ∙ b.fraction)
          (sym a.original ∙ b.original) frames.0,
      frames.1,
    ) where
      made : (r s : Record) → r.seconds ≡ s.seconds → r.fraction ≡ s.fraction
          → r.original_length ≡ s.original_length → r.frame ≡ s.frame → r ≡ s
      made r s a b c d = λ k. record {
        seconds = a k;
        fraction = b k;
        original_length = c k;
        frame =
            d k;
      }

      same_front : (a b x y : List ℕ) → length a ≡ length b → a ++ x ≡ b ++ y → (a ≡ b) × (x ≡ y)
      same_front a b x y size e = (
        sym (take_at a x (length b) size) ∙ ap (take (length b)) e ∙ take_at b y (length b) refl,
        sym (drop_at a x (length b) size) ∙ ap (drop (length b)) e ∙ drop_at b y (length b) refl,
      )

-- and a record is at the front of its bytes
pub record_front : (order : ByteOrder) (r : Record) (more : List ℕ) → Fits r
    → BeginsWithRecord order (record_bytes order r ++ more)
record_front order r more fits =
    let a = reads_back order r more fits in
    let size = a.size in
    let captured = a.captured in
    let both = length-append r.frame more in
    record { header = omega (arith, size); captured = omega (arith, size, captured, both) }

-- ---- lists of records

pub reading_next : (order : ByteOrder) (r : Record) (bytes cut : List ℕ) (rs : List Record) → Fits r
    → AreRecords order bytes rs cut
    → AreRecords order (record_bytes order r ++ bytes) (r ∷ rs) cut
reading_next order r bytes cut rs fits are = record {
  split = ap (λ (b : List ℕ). record_bytes order r ++ b) are.split
      ∙ sym (append_assoc (record_bytes order r) (flat_map (record_bytes order) rs) cut);
  fit = (fits, are.fit);
  end = are.end;
}

pub reading_none : (order : ByteOrder) (bytes : List ℕ) → (BeginsWithRecord order bytes → ⊥)
    → AreRecords order bytes [] bytes
reading_none order bytes end = record { split = refl; fit = tt; end = end }

-- without its first record
tail_split : (order : ByteOrder) (r : Record) (rs : List Record) (cut : List ℕ)
    → flat_map (record_bytes order) (r ∷ rs) ++ cut ≡ record_bytes order r
    ++ (flat_map (record_bytes order) rs ++ cut)
tail_split order r rs cut = append_assoc (record_bytes order r) (flat_map (record_bytes order) rs)
    cut

pub reading_one : (order : ByteOrder) (bytes cut left : List ℕ) (rs ss : List Record)
    → AreRecords order bytes rs cut → AreRecords order bytes ss left
    → (rs ≡ ss) × (cut ≡ left)
reading_one order bytes cut left [] [] p q = (refl, sym p.split ∙ q.split)
reading_one order bytes cut left [] (s ∷ ss) p q =
    absurd (p.end (subst (BeginsWithRecord order)
    (sym (tail_split order s ss left) ∙ sym q.split ∙ p.split)
    (record_front order s (flat_map (record_bytes order) ss ++ left) q.fit.0)))
reading_one order bytes cut left (r ∷ rs) [] p q =
    absurd (q.end (subst (BeginsWithRecord order)
    (sym (tail_split order r rs cut) ∙ sym p.split ∙ q.split)
    (record_front order r (flat_map (record_bytes order) rs ++ cut) p.fit.0)))
reading_one order bytes cut left (r ∷ rs) (s ∷ ss) p q =
    let e = sym (tail_split order r rs cut) ∙ sym p.split ∙ q.split ∙ tail_split order s ss left in
    let one = record_one order r s (flat_map (record_bytes order) rs ++ cut)
    (flat_map (record_bytes order) ss ++ left) p.fit.0 q.fit.0 e in
    let rest = reading_one order (flat_map (record_bytes order) rs ++ cut) cut left rs ss
    record { split = refl; fit = p.fit.1; end = p.end }
    record { split = one.1; fit = q.fit.1; end = q.end } in
    (joined r s rs ss one.0 rest.0, rest.1) where
      joined : (r s : Record) (rs ss : List Record) → r ≡ s → rs ≡ ss → r ∷ rs ≡ s ∷ ss
      joined r s rs ss a b = cc

-- ---- a header

-- each of the first four is a byte
four_fit : (bytes : List ℕ) → ((k : ℕ) → get_or bytes k 0 < 256) → (k : ℕ)
    → get_or (take 4 bytes) k 0 < 256
four_fit bytes fits k = by_place (cases_lt k 4) where
  by_place : (k < 4) ⊎ (4 ≤ k) → get_or (take 4 bytes) k 0 < 256
  by_place (inl below) = rw (get_or-take 4 bytes k 0 below) (fits k)
  by_place (inr past) = let none : get_or (take 4 bytes) k 0 ≡ 0 =
      get_or_past (take 4 bytes) k 0 (omega (arith, length-take 4 bytes)) in omega (arith, none)

number_again : (order : ByteOrder) (bytes : List ℕ) → 4 ≤ length bytes
    → ((k : ℕ) → get_or bytes k 0 < 256)
    → number_bytes order w32 (number_in order w32 bytes) ≡ take 4 bytes
number_again BigEndian bytes size fits = be_bytes_4 (take 4 bytes)
    (from_be_bytes w32 (take 4 bytes)) (omega (arith, length-take 4 bytes)) (four_fit bytes fits)
    refl
number_again LittleEndian bytes size fits = le_bytes_4 (take 4 bytes)
    (from_le_bytes w32 (take 4 bytes)) (omega (arith, length-take 4 bytes)) (four_fit bytes fits)
    refl

-- a number after others
number_after : (order : ByteOrder) (n : ℕ) (bytes : List ℕ) → n + 4 ≤ length bytes
    → ((k : ℕ) → get_or bytes k 0 < 256)
    → number_bytes order w32 (number_in order w32 (drop n bytes)) ≡ take 4 (drop n bytes)
number_after order n bytes size fits =
    number_again order (drop n bytes) (omega (arith, length-drop n bytes))
    (λ k. rw (get_or-drop n bytes k 0) (fits (n + k)))

-- the numbers of a header are its bytes
pub header_again : (order : ByteOrder) (bytes : List ℕ) → 16 ≤ length bytes
    → ((k : ℕ) → get_or bytes k 0 < 256)
    → number_bytes order w32 (number_in order w32 bytes)
    ++ (number_bytes order w32 (number_in order w32 (drop 4 bytes))
    ++ (number_bytes order w32 (number_in order w32 (drop 8 bytes))
    ++ number_bytes order w32 (number_in order w32 (drop 12 bytes)))) ≡ take 16 bytes
header_again order bytes size fits =
    let a = number_again order bytes (omega arith) fits in
    let b = number_after order 4 bytes (omega arith) fits in
    let c = number_after order 8 bytes (omega arith) fits in
    let d = number_after order 12 bytes (omega arith) fits in
    let third : take 8 (drop 8 bytes) ≡ take 4 (drop 8 bytes) ++ take 4 (drop 12 bytes) =
    take-add 4 4 (drop 8 bytes) ∙ ap (λ (t : List ℕ). take 4 (drop 8 bytes) ++ take 4 t)
    (drop-drop 4 8 bytes) in
    let second : take 12 (drop 4 bytes) ≡ take 4 (drop 4 bytes) ++ take 8 (drop 8 bytes) =
    take-add 4 8 (drop 4 bytes) ∙ ap (λ (t : List ℕ). take 4 (drop 4 bytes) ++ take 8 t)
    (drop-drop 4 4 bytes) in
    let first : take 16 bytes ≡ take 4 bytes ++ take 12 (drop 4 bytes) = take-add 4 12 bytes in
    cc

-- a part up to the end is all that is left
pub whole_rest : (n : ℕ) (bytes : List ℕ) → take (length bytes - n) (drop n bytes) ≡ drop n bytes
whole_rest n bytes = take_all (length bytes - n) (drop n bytes) (omega (arith, length-drop n bytes))
