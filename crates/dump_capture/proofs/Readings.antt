-- Every list of bytes is read as some records.
use Rattle.std.proofs.Common.{◌≡◌, ◌+◌, ◌<◌, ◌≤◌, ◌^◌, ◌⊎◌, inl, inr, ℕ, zero, suc, List, [], ◌∷◌, ◌++◌, length, get_or, take, drop, sym, ap, subst, ◌∙◌, arith}
use Rattle.std.specs.Int.{w32}
use Rattle.std.proofs.Math.Seq.{take-add}
use Rattle.std.proofs.lemmas.List.{length-take, length-drop, get_or-drop, take-append-drop}
use Rattle.std.proofs.lemmas.Bool.{cases_lt}
use Rattle.dump_capture.specs.Number.{number_in}
use Rattle.dump_capture.specs.Pcap.{Record, Fits, record_bytes, record_header, record_of, captured_length, BeginsWithRecord, AreRecords}
use Rattle.dump_capture.specs.declared.pcap.ByteOrder.{ByteOrder}
use Rattle.dump_capture.specs.declared.pcap.ByteOrder.TheVariants.{BigEndian, LittleEndian}
use Rattle.dump_capture.proofs.Records.{header_again, reading_next, reading_none}

number_below : (order : ByteOrder) (bytes : List ℕ) → 4 ≤ length bytes
    → ((k : ℕ) → get_or bytes k 0 < 256)
    → number_in order w32 bytes < 2 ^ 32
number_below order [] size fits = absurd (omega arith)
number_below order (a ∷ []) size fits = absurd (omega arith)
number_below order (a ∷ b ∷ []) size fits = absurd (omega arith)
number_below order (a ∷ b ∷ c ∷ []) size fits = absurd (omega arith)
number_below BigEndian (a ∷ b ∷ c ∷ d ∷ more) size fits =
    omega (arith, fits 0, fits 1, fits 2, fits 3)
number_below LittleEndian (a ∷ b ∷ c ∷ d ∷ more) size fits =
    omega (arith, fits 0, fits 1, fits 2, fits 3)

number_below_at : (order : ByteOrder) (n : ℕ) (bytes : List ℕ) → n + 4 ≤ length bytes
    → ((k : ℕ) → get_or bytes k 0 < 256)
    → number_in order w32 (drop n bytes) < 2 ^ 32
number_below_at order n bytes size fits =
    number_below order (drop n bytes) (omega (arith, length-drop n bytes))
    (λ k. rw (get_or-drop n bytes k 0) (fits (n + k)))

-- the record at the front
abbrev front_record : ByteOrder → List ℕ → Record
front_record order bytes = record_of (record_header order bytes)
    (take (captured_length order bytes) (drop 16 bytes))

front_size : (order : ByteOrder) (bytes : List ℕ) → BeginsWithRecord order bytes
    → length (take (captured_length order bytes) (drop 16 bytes)) ≡ captured_length order bytes
front_size order bytes begins =
    let captured = begins.captured in
    omega (
      arith,
      captured,
      length-take (captured_length order bytes) (drop 16 bytes),
      length-drop
          16 bytes,
    )

front_fits : (order : ByteOrder) (bytes : List ℕ) → BeginsWithRecord order bytes
    → ((k : ℕ) → get_or bytes k 0 < 256)
    → Fits (front_record order bytes)
front_fits order bytes begins fits =
    let header = begins.header in
    record {
      seconds = number_below order bytes (omega arith) fits;
      fraction = number_below_at order 4 bytes (omega arith) fits;
      captured = rw (front_size order bytes begins)
          (number_below_at order 8 bytes (omega arith) fits);
      original = number_below_at order 12 bytes (omega arith) fits;
    }

front_split : (order : ByteOrder) (bytes : List ℕ) → BeginsWithRecord order bytes
    → ((k : ℕ) → get_or bytes k 0 < 256)
    → bytes ≡ record_bytes order (front_record order bytes)
    ++ drop (16 + captured_length order bytes) bytes
front_split order bytes begins fits =
    let n = captured_length order bytes in
    let again = header_again order bytes begins.header fits in
    rw (front_size order bytes begins)
    (sym (take-append-drop (16 + n) bytes) ∙ ap (λ (x : List ℕ). x ++ drop (16 + n) bytes)
    (take-add 16 n bytes ∙ ap (λ (x : List ℕ). x ++ take n (drop 16 bytes)) (sym again)))

decided : (order : ByteOrder) (bytes : List ℕ) → BeginsWithRecord order bytes
    ⊎ (BeginsWithRecord order bytes → ⊥)
decided order bytes = by_header (cases_lt (length bytes) 16)
    (cases_lt (length bytes) (16 + captured_length order bytes)) where
      by_header : (length bytes < 16) ⊎ (16 ≤ length bytes)
          → (length bytes < 16 + captured_length order bytes)
          ⊎ (16 + captured_length order bytes ≤ length bytes)
          → BeginsWithRecord order bytes ⊎ (BeginsWithRecord order bytes → ⊥)
      by_header (inl short) other = inr (λ b. (let h = b.header in omega arith))
      by_header (inr header) (inl short) = inr (λ b. (let h = b.captured in omega arith))
      by_header (inr header) (inr captured) = inl (record { header = header; captured = captured })

-- the records of bytes
pub record Reading (order : ByteOrder) (bytes : List ℕ) : Type 0 where
  pub records : List Record
  pub cut : List ℕ
  pub are : AreRecords order bytes records cut

some_reading : (order : ByteOrder) (n : ℕ) (bytes : List ℕ) → length bytes ≤ n
    → ((k : ℕ) → get_or bytes k 0 < 256) → Reading order bytes
some_reading order zero bytes small fits =
    record {
      records = [];
      cut = bytes;
      are =
          reading_none order bytes (λ b. (let h = b.header in omega arith));
    }
some_reading order (suc n) bytes small fits =
    by_front (decided order bytes) (λ rest size there. some_reading order n rest size there) where
      by_front : BeginsWithRecord order bytes ⊎ (BeginsWithRecord order bytes → ⊥)
          → ((rest : List ℕ) → length rest ≤ n → ((k : ℕ) → get_or rest k 0 < 256)
          → Reading order rest)
          → Reading order bytes
      by_front (inr none) go =
          record { records = []; cut = bytes; are = reading_none order bytes none }
      by_front (inl begins) go =
          let m = 16 + captured_length order bytes in
          let header = begins.header in
          let left = length-drop m bytes in
          let rest = go (drop m bytes) (omega arith)
          (λ k. rw (get_or-drop m bytes k 0) (fits (m + k))) in
          record {
            records = front_record order bytes ∷ rest.records;
            cut = rest.cut;
            are = subst (λ (b : List ℕ). AreRecords order b
                (front_record order bytes ∷ rest.records) rest.cut) (sym (front_split order bytes begins fits))
                (reading_next order (front_record order bytes) (drop m bytes) rest.cut rest.records
                (front_fits order bytes begins fits) rest.are);
          }

pub reading_some : (order : ByteOrder) (bytes : List ℕ) → ((k : ℕ) → get_or bytes k 0 < 256)
    → (rs : List Record) × (cut : List ℕ) × AreRecords order bytes rs cut
reading_some order bytes fits =
    let r = some_reading order (length bytes) bytes (omega arith) fits in
    (r.records, r.cut, r.are)
