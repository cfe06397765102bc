-- Fields of one size in a row read back: written one after the other, they are read one after the
-- other.
use Rattle.std.{proofs.Common.{◌≡◌, ℕ, zero, suc, ◌+◌, ◌*◌, ◌^◌, ◌<◌, List, [], ◌∷◌, ◌++◌, length, drop, refl, sym, ap, ◌∙◌, append_assoc, add-one, arith, map, append-nil, drop_at, drop-drop}, specs.Int.{w16, w32, to_be_bytes}, specs.List.{flat_map, AllByRecursion, range_with_len}, proofs.lemmas.List.FromFn.{length-map-range_with_len}, proofs.lemmas.Nat.{from_be_bytes-to_be_bytes_2, from_be_bytes-to_be_bytes_4}}
use native.Mathlib.Nat.{mul-zero, mul-suc}
use Rattle.dcsctp_tlv.specs.{Number.{number16, number32, numbers}, Fields.{fields}}

-- `count` are read
pub length-fields : {A : Type 0} (read : List ℕ → A) (size count : ℕ) (bytes : List ℕ)
    → length (fields read size count bytes) ≡ count
length-fields read size count bytes =
    length-map-range_with_len (λ i. read (drop (size * i) bytes)) 0 count

each_read : {A : Type 0} (f : ℕ → A) (P : A → Type 0) → ((i : ℕ) → P (f i)) → (ns : List ℕ)
    → AllByRecursion P (map f ns)
each_read f P each [] = tt
each_read f P each (n ∷ ns) = (each n, each_read f P each ns)

-- what holds of whatever is read holds of each of them
pub fields_each : {A : Type 0} (read : List ℕ → A) (size : ℕ) (P : A → Type 0)
    → ((bytes : List ℕ) → P (read bytes)) → (count : ℕ) (bytes : List ℕ)
    → AllByRecursion P (fields read size count bytes)
fields_each read size P each count bytes = each_read (λ i. read (drop (size * i) bytes)) P
    (λ i. each (drop (size * i) bytes)) (range_with_len 0 count)

later : {A : Type 0} (read : List ℕ → A) (size : ℕ) (bytes : List ℕ) (a n : ℕ)
    → map (λ i. read (drop (size * i) bytes)) (range_with_len (a + 1) n)
    ≡ map (λ i. read (drop (size * i) (drop size bytes))) (range_with_len a n)
later read size bytes a zero = refl
later read size bytes a (suc n) =
    let at : size + size * a ≡ size * (a + 1) =
    omega (arith, mul-suc size a, ap (λ (k : ℕ). size * k) (add-one a)) in
    let same : read (drop (size * (a + 1)) bytes) ≡ read (drop (size * a) (drop size bytes)) =
    ap read (sym (drop-drop (size * a) size bytes ∙ ap (λ (k : ℕ). drop k bytes) at)) in
    rw (same, later read size bytes (a + 1) n) refl

-- the first, and those after it
pub fields-first : {A : Type 0} (read : List ℕ → A) (size n : ℕ) (bytes : List ℕ)
    → fields read size (suc n) bytes ≡ read bytes ∷ fields read size n (drop size bytes)
fields-first read size n bytes =
    rw (mul-zero size, later read size bytes 0 n) refl

-- one field that can be written: it has its size, and is read again, whatever follows
pub record FieldLaw {A : Type 0} (read : List ℕ → A) (write : A → List ℕ) (size : ℕ) (IsWritable : A
    → Type 0) : Type 0 where
  pub sized : (x : A) → IsWritable x → length (write x) ≡ size
  pub back : (x : A) (rest : List ℕ) → IsWritable x → read (write x ++ rest) ≡ x

pub fields_back : {A : Type 0} (read : List ℕ → A) (write : A → List ℕ) (size : ℕ) (IsWritable : A
    → Type 0) → FieldLaw read write size IsWritable
    → (xs : List A) (rest : List ℕ) → AllByRecursion IsWritable xs
    → fields read size (length xs) (flat_map write xs ++ rest) ≡ xs
fields_back read write size IsWritable law [] rest h = refl
fields_back read write size IsWritable law (x ∷ xs) rest h =
    let after : List ℕ = flat_map write xs ++ rest in
    let e : flat_map write (x ∷ xs) ++ rest ≡ write x ++ after =
    append_assoc (write x) (flat_map write xs) rest in
    rw (
      fields-first read size (length xs) (flat_map write (x ∷ xs) ++ rest),
      e,
      law.back x after h.0,
      drop_at (write x) after size (law.sized x h.0),
      fields_back read write size IsWritable law xs rest h.1,
    ) refl

-- with nothing after them
pub last_fields_back : {A : Type 0} (read : List ℕ → A) (write : A → List ℕ) (size : ℕ)
    (IsWritable : A → Type 0) → FieldLaw read write size IsWritable
    → (xs : List A) (count : ℕ) → count ≡ length xs → AllByRecursion IsWritable xs
    → fields read size count (flat_map write xs) ≡ xs
last_fields_back read write size IsWritable law xs count e h =
    rw (e, ← append-nil (flat_map write xs)) (fields_back read write size IsWritable law xs [] h)

-- ---- numbers

pub number16_law : FieldLaw number16 (to_be_bytes w16) 2 (λ n. n < 2 ^ 16)
number16_law = record { sized = λ n lt. refl; back = λ n rest lt. from_be_bytes-to_be_bytes_2 n lt }

pub number32_law : FieldLaw number32 (to_be_bytes w32) 4 (λ n. n < 2 ^ 32)
number32_law = record { sized = λ n lt. refl; back = λ n rest lt. from_be_bytes-to_be_bytes_4 n lt }

pub numbers16_back : (ns : List ℕ) (count : ℕ) → count ≡ length ns
    → AllByRecursion (λ n. n < 2 ^ 16) ns → fields number16 2 count (numbers w16 ns) ≡ ns
numbers16_back ns count e h =
    last_fields_back number16 (to_be_bytes w16) 2 _ number16_law ns count e h

pub numbers32_back : (ns : List ℕ) (count : ℕ) → count ≡ length ns
    → AllByRecursion (λ n. n < 2 ^ 32) ns → fields number32 4 count (numbers w32 ns) ≡ ns
numbers32_back ns count e h =
    last_fields_back number32 (to_be_bytes w32) 4 _ number32_law ns count e h
