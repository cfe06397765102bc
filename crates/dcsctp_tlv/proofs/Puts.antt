-- Fields in a row: read one after the other, and written one after the other.
use Rattle.std.{proofs.Common.{◌≡◌, ℕ, suc, zero, ◌+◌, ◌*◌, ◌<◌, ◌≤◌, List, [], ◌∷◌, ◌++◌, length, get_or, drop, take, refl, sym, ap, ◌∙◌, append_assoc, arith, add-one, All, map, append-nil, length-append, length-take, take_at, drop_at, drop-drop, length-drop}, specs.Int.{w32}, specs.List.{flat_map, AllByRecursion}, proofs.lemmas.List.{length-map}, proofs.lemmas.List.Elements.{recursion_from_All}, proofs.lemmas.List.FromFn.{map-range_with_len_more}, proofs.lemmas.List.Concat.{flat_map-append}, proofs.lemmas.List.Folds.{flat_map-map}}
use native.Mathlib.Nat.{mul-zero, mul-suc}
use Rattle.dcsctp_tlv.{specs.Frame.{header}, specs.Image.{put, solid_tlv, image_of, written}, specs.Number.{numbers}, proofs.Images.{written-solid, written_item, take_next, all_take, all_from}, specs.Fields.{fields}}
pub use Rattle.dcsctp_tlv.proofs.Lengths.{length-numbers}

-- ---- places

-- the field of a place lies within those of the count
pub inside : (size i count : ℕ) → i < count → size * i + size ≤ size * count
inside size i zero lt = absurd (omega arith)
inside size zero (suc count) lt = omega (arith, mul-suc size count, mul-zero size)
inside size (suc i) (suc count) lt =
    omega (arith, mul-suc size i, mul-suc size count, inside size i count (omega arith))

pub next_place : (size i : ℕ) → size * (i + 1) ≡ size * i + size
next_place size i = omega (arith, mul-suc size i, ap (λ (n : ℕ). size * n) (add-one i))

-- ---- reading

-- one field more
pub fields-push : {A : Type 0} (read : List ℕ → A) (size count : ℕ) (bytes : List ℕ)
    → fields read size (count + 1) bytes ≡ fields read size count bytes
    ++ read (drop (size * count) bytes) ∷ []
fields-push read size count bytes =
    map-range_with_len_more (λ i. read (drop (size * i) bytes)) 0 count count (omega arith)

-- ---- writing

-- what is written after what was written
pub put-put : (old : List ℕ) (place next : ℕ) (a b : List ℕ) → place ≤ length old
    → next ≡ place + length a → put (put old place a) next b ≡ put old place (a ++ b)
put-put old place next a b le e =
    let front : List ℕ = take place old ++ a in
    let back : List ℕ = drop (place + length a) old in
    let so_far : put old place a ≡ front ++ back = sym (append_assoc (take place old) a back) in
    let len : length front ≡ next = (let l = length-append (take place old) a in
    let k = length-take place old in omega (arith, l, k)) in
    let end : place + length a + length b ≡ place + length (a ++ b) =
    (let l = length-append a b in omega (arith, l)) in
    rw (
      so_far,
      take_at front back next len,
      ← drop-drop (length b) next (front ++ back),
      drop_at front back next len,
      drop-drop (length b) (place + length a) old,
      end,
    ) (simp append_assoc)

-- `n` fields of one size
pub length-written : {X : Type 0} (write : X → List ℕ) (size : ℕ) (xs : List X)
    → AllByRecursion (λ x. length (write x) ≡ size) xs → length (flat_map write xs)
    ≡ size * length xs
length-written write size [] p = sym (mul-zero size)
length-written write size (x ∷ xs) p =
    let l = length-append (write x) (flat_map write xs) in
    let more = length-written write size xs p.1 in
    omega (arith, l, more, p.0, mul-suc size (length xs))

-- one field more
pub put_more : {X : Type 0} (write : X → List ℕ) (size : ℕ) (is_writable : X → Type 0) (xs : List X)
    (i : ℕ) (x : X) (old out : List ℕ) (place end : ℕ)
    → ((y : X) → is_writable y → length (write y) ≡ size) → All is_writable xs → i < length xs
    → x ≡ get_or xs i x → place ≤ length old
    → end ≡ place + size * i → out ≡ put old place (flat_map write (take i xs))
    → put out end (write x) ≡ put old place (flat_map write (take (i + 1) xs))
put_more write size is_writable xs i x old out place end law each lt e le at so_far =
    let before = flat_map write (take i xs) in
    let count : length (take i xs) ≡ i = (let k = length-take i xs in omega (arith, k)) in
    let len : length before ≡ size * i =
    length-written write size (take i xs) (all_from is_writable _ (take i xs) law
    (all_take is_writable i xs (recursion_from_All is_writable xs each)))
    ∙ ap (λ (n : ℕ). size * n) count in
    let more : flat_map write (take (i + 1) xs) ≡ before ++ write x =
    rw (take_next xs i x lt e, flat_map-append write (take i xs) (x ∷ [])) (simp append-nil) in
    rw (so_far, more) (put-put old place end before (write x) le (rw len at))

-- ---- lengths

pub length-fields : {X T : Type 0} (view : X → T) (write : T → List ℕ) (size : ℕ) (is_writable : X
    → Type 0) (xs : List X) → ((x : X) → is_writable x → length (write (view x)) ≡ size)
    → All is_writable xs → length (flat_map write (map view xs)) ≡ size * length xs
length-fields view write size is_writable xs law each =
    ap length (flat_map-map write view xs) ∙ length-written (λ x. write (view x)) size xs
    (all_from is_writable _ xs law (recursion_from_All is_writable xs each))

-- numbers of four bytes, and after them fields
pub length-value : {X T : Type 0} (view : X → T) (write : T → List ℕ) (size : ℕ)
    (is_writable : X → Type 0) (ns : List ℕ) (xs : List X)
    → ((x : X) → is_writable x → length (write (view x)) ≡ size) → All is_writable xs
    → length (numbers w32 ns ++ flat_map write (map view xs))
    ≡ 4 * length ns + size * length (map view xs)
length-value view write size is_writable ns xs law each =
    let l = length-append (numbers w32 ns) (flat_map write (map view xs)) in
    let n = length-numbers w32 4 ns (λ k. refl) in
    let m = length-fields view write size is_writable xs law each in
    omega (arith, l, n, m ∙ ap (λ (k : ℕ). size * k) (sym (length-map xs view)))

-- ---- items

-- a value after its header
pub written_value : (first second n : ℕ) (bytes old headed : List ℕ) → n ≡ length bytes
    → 4 + length bytes ≤ length old
    → headed ≡ header first second n ++ drop 4 old
    → put headed 4 bytes ≡ written (image_of (solid_tlv first second bytes)) old
written_value first second n bytes old headed e room is =
    let all : length headed ≡ 4 + length (drop 4 old) =
    ap length is ∙ length-append (header first second n) (drop 4 old) in
    let left = length-drop 4 old in
    let left_headed = length-drop 4 headed in
    let room_left : length bytes ≤ length (drop 4 headed) = omega arith in
    rw (← drop-drop (length bytes) 4 headed, ← written-solid bytes (drop 4 headed) room_left)
    (written_item (solid_tlv first second bytes) old headed (rw (← e) is) (omega arith))
