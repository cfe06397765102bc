-- Images: how long they are, and what an output is after they were written.
use Rattle.std.{proofs.Common.{◌≡◌, ℕ, suc, zero, ◌+◌, ◌-◌, ◌<◌, ◌≤◌, List, [], ◌∷◌, ◌++◌, length, get_or, take, drop, refl, sym, ap, subst, ◌∙◌, append_assoc, arith, inl, inr, Option, Some, None, replicate, unwrap_or, map, take-append-drop, length-append, drop_at}, specs.List.{AllByRecursion}, proofs.lemmas.List.{length-replicate, length-map, take_more, get_or_read, map-append}, proofs.lemmas.Bool.{cases_lt}}
use Rattle.dcsctp_tlv.specs.{Frame.{round_up_to_4, header}, Image.{solid, holes, written, zeroed, gap, Tlv, size_of, image_of, list_image, list_size, IsListEncodable}}

-- ---- writing

written-append : (p q : List (Option ℕ)) (old : List ℕ) → written (p ++ q) old ≡ take (length p)
    (written p old) ++ written q (drop (length p) old)
written-append [] q old = refl
written-append (c ∷ p) [] [] = refl
written-append (c ∷ p) (d ∷ q) [] = refl
written-append (c ∷ p) q (x ∷ old) =
    ap (λ (ys : List ℕ). unwrap_or c x ∷ ys) (written-append p q old)

pub drop-written : (p : List (Option ℕ)) (old : List ℕ) → drop (length p) (written p old)
    ≡ drop (length p) old
drop-written [] old = refl
drop-written (c ∷ p) [] = refl
drop-written (c ∷ p) (x ∷ old) = drop-written p old

written-holes : (n : ℕ) (old : List ℕ) → written (holes n) old ≡ old
written-holes zero old = refl
written-holes (suc n) [] = refl
written-holes (suc n) (x ∷ old) = ap (λ (ys : List ℕ). x ∷ ys) (written-holes n old)

pub written-solid : (bytes old : List ℕ) → length bytes ≤ length old → written (solid bytes) old
    ≡ bytes ++ drop (length bytes) old
written-solid [] old le = refl
written-solid (b ∷ bytes) [] le = absurd (omega arith)
written-solid (b ∷ bytes) (x ∷ old) le =
    ap (λ (ys : List ℕ). b ∷ ys) (written-solid bytes old (omega arith))

-- bytes at the front, and after them an image
written_after : (front : List ℕ) (image : List (Option ℕ)) (old out : List ℕ)
    → out ≡ front ++ drop (length front) old → length front ≤ length old
    → take (length front) out ++ written image (drop (length front) out)
    ≡ written (solid front ++ image) old
written_after front image old out e room =
    let len : length (solid front) ≡ length front = length-map front Some in
    let is : out ≡ written (solid front) old = e ∙ sym (written-solid front old room) in
    let after : drop (length front) out ≡ drop (length front) old =
    ap (drop (length front)) e ∙ drop_at front (drop (length front) old) (length front) refl in
    rw (after, written-append (solid front) image old, len, ← is) refl

-- ---- items

-- a header at the front, and after it a value
pub written_item : (t : Tlv) (old out : List ℕ) → out ≡ header t.first t.second t.value_size
    ++ drop 4 old → 4 ≤ length old
    → take 4 out ++ written t.value (drop 4 out) ≡ written (image_of t) old
unfolding image_of
written_item t old out e room =
    written_after (header t.first t.second t.value_size) t.value old out e room

-- ---- lists of items

-- an item after an image and its gap
written_next : (p i : List (Option ℕ)) (n start : ℕ) (old out : List ℕ) → out ≡ written p old
    → start ≡ length p + n → take start out ++ written i (drop start out)
    ≡ written (p ++ (holes n ++ i)) old
written_next p i n start old out e s =
    let q : List (Option ℕ) = p ++ holes n in
    let same : written q old ≡ written p old =
    rw (written-append p (holes n) old, written-holes n (drop (length p) old), ← drop-written p old)
    (take-append-drop (length p) (written p old)) in
    let len : length q ≡ start =
    rw (length-append p (holes n), length-replicate {A = Option ℕ} n None) (sym s) in
    let after : drop start out ≡ drop start old = rw (← len, e, ← same) (drop-written q old) in
    rw (after, ← append_assoc p (holes n) i, written-append q i old, len, same, ← e) refl

round_up-add : (a b : ℕ) → round_up_to_4 (round_up_to_4 a + b) ≡ round_up_to_4 a + round_up_to_4 b
round_up-add a b = omega arith

gap-add : (a b : ℕ) → gap (a + (gap a + b)) ≡ gap b
gap-add a b = omega arith

list_size-push : {T : Type 0} (tlv : T → Tlv) (ts : List T) (t : T) → list_size tlv (ts ++ t ∷ [])
    ≡ round_up_to_4 (list_size tlv ts) + size_of (tlv t)
list_size-push tlv [] t = omega arith
list_size-push tlv (u ∷ []) t = refl
list_size-push tlv (u ∷ v ∷ ts) t = rw (list_size-push tlv (v ∷ ts) t)
    (omega (arith, round_up-add (size_of (tlv u)) (list_size tlv (v ∷ ts))))

-- the image of a list is as long as its size
pub length-list_image : {T : Type 0} (tlv : T → Tlv)
    → ((t : T) → length (image_of (tlv t)) ≡ size_of (tlv t)) → (ts : List T)
    → length (list_image tlv ts) ≡ list_size tlv ts
length-list_image tlv law [] = refl
length-list_image tlv law (t ∷ []) = law t
length-list_image tlv law (t ∷ u ∷ ts) =
    let rest = length-list_image tlv law (u ∷ ts) in
    simp (length-append, length-replicate, law t, rest) (omega arith)

list_image-push : {T : Type 0} (tlv : T → Tlv) (ts : List T) (t : T) → list_image tlv (ts ++ t ∷ [])
    ≡ list_image tlv ts ++ (holes (gap (list_size tlv ts)) ++ image_of (tlv t))
list_image-push tlv [] t = refl
list_image-push tlv (u ∷ []) t = refl
list_image-push tlv (u ∷ v ∷ ts) t =
    let n = list_size tlv (v ∷ ts) in
    let same : gap (list_size tlv (u ∷ v ∷ ts)) ≡ gap n =
    ap gap (omega arith) ∙ gap-add (size_of (tlv u)) n in
    rw same (simp (list_image-push tlv (v ∷ ts) t, append_assoc))

size_front : {T : Type 0} (tlv : T → Tlv) (ts us : List T)
    → list_size tlv ts ≤ list_size tlv (ts ++ us)
size_front tlv [] us = omega arith
size_front tlv (t ∷ []) [] = omega arith
size_front tlv (t ∷ []) (u ∷ us) = omega arith
size_front tlv (t ∷ u ∷ ts) us = let h = size_front tlv (u ∷ ts) us in omega (arith, h)

-- the items up to the next one
pub take_next : {T : Type 0} (ts : List T) (i : ℕ) (t : T) → i < length ts → t ≡ get_or ts i t
    → take (i + 1) ts ≡ take i ts ++ t ∷ []
take_next ts i t lt e = take_more ts i t lt ∙ ap (λ (x : _). take i ts ++ x ∷ []) (sym e)

-- the next item fits after those before it
next_size : {T : Type 0} (tlv : T → Tlv) (ts : List T) {i : ℕ} {t : T} → i < length ts
    → t ≡ get_or ts i t
    → (list_size tlv (take (i + 1) ts) ≡ round_up_to_4 (list_size tlv (take i ts))
    + size_of (tlv t)) × (list_size tlv (take (i + 1) ts) ≤ list_size tlv ts)
next_size tlv ts {i} {t} lt e =
    let more = take_next ts i t lt e in (
      ap (list_size tlv) more ∙ list_size-push tlv (take i ts) t,
      subst (λ (all : List _). list_size tlv (take (i + 1) ts) ≤ list_size tlv all)
          (take-append-drop (i + 1) ts) (size_front tlv (take (i + 1) ts) (drop (i + 1) ts)),
    )

-- the same for a list that can be written
pub room_for : {T : Type 0} {tlv : T → Tlv} {placed : T → Type 0} {ts : List T} {i : ℕ} {t : T}
    → IsListEncodable tlv placed ts → i < length ts → t ≡ get_or ts i t
    → placed t × (list_size tlv (take (i + 1) ts) ≡ round_up_to_4 (list_size tlv (take i ts))
    + size_of (tlv t)) × (list_size tlv (take (i + 1) ts) ≤ list_size tlv ts)
room_for {T} {tlv} {placed} {ts} {i} {t} h lt e =
    let n = next_size tlv ts lt e in
    (subst placed (sym e) (h.each i t lt), n.0, n.1)

-- what follows for each item
pub all_from : {T : Type 0} (P Q : T → Type 0) (ts : List T) → ((t : T) → P t → Q t)
    → AllByRecursion P ts → AllByRecursion Q ts
all_from P Q [] law h = tt
all_from P Q (t ∷ ts) law h = (law t h.0, all_from P Q ts law h.1)

pub all_take : {T : Type 0} (P : T → Type 0) (i : ℕ) (ts : List T) → AllByRecursion P ts
    → AllByRecursion P (take i ts)
all_take P zero ts h = tt
all_take P (suc i) [] h = tt
all_take P (suc i) (t ∷ ts) h = (h.0, all_take P i ts h.1)

-- one item more of a list is written
pub written_more : {T : Type 0} (tlv : T → Tlv) (ts : List T) {i : ℕ} {t : T} (old : List ℕ)
    {out : List ℕ} {start : ℕ}
    → ((x : T) → length (image_of (tlv x)) ≡ size_of (tlv x)) → i < length ts → t ≡ get_or ts i t
    → out ≡ written (list_image tlv (take i ts)) old
    → start ≡ round_up_to_4 (list_size tlv (take i ts))
    → take start out ++ written (image_of (tlv t)) (drop start out)
    ≡ written (list_image tlv (take (i + 1) ts)) old
written_more tlv ts {i} {t} old {out} {start} law lt e so_far here =
    let before = list_image tlv (take i ts) in
    let size = list_size tlv (take i ts) in
    let len : length before ≡ size = length-list_image tlv law (take i ts) in
    let place : start ≡ length before + gap size = here ∙ omega (arith, len) in
    rw (take_next ts i t lt e, list_image-push tlv (take i ts) t)
    (written_next before (image_of (tlv t)) (gap size) start old out so_far place)

-- ---- the test of a list

pub not_total : {T : Type 0} {tlv : T → Tlv} {placed : T → Type 0} {ts : List T} {i : ℕ} {t : T}
    {total : ℕ} → IsListEncodable tlv placed ts → i < length ts → t ≡ get_or ts i t
    → total ≡ list_size tlv (take i ts) → 65535 < round_up_to_4 total + size_of (tlv t) → ⊥
not_total h lt e so_far big =
    let n = room_for h lt e in
    let k = ap round_up_to_4 so_far in
    omega (arith, n.1, n.2, h.total, k, big)

pub total_more : {T : Type 0} (tlv : T → Tlv) (ts : List T) {i : ℕ} {t : T} {total next : ℕ}
    → i < length ts → t ≡ get_or ts i t
    → total ≡ list_size tlv (take i ts) → next ≡ round_up_to_4 total + size_of (tlv t)
    → next ≡ list_size tlv (take (i + 1) ts)
total_more tlv ts {i} {t} lt e so_far is = rw (is, so_far) (sym (next_size tlv ts lt e).0)

pub all_more : {T : Type 0} (P : T → Type 0) (ts : List T) (i : ℕ) (t : T) → i < length ts
    → t ≡ get_or ts i t → P t
    → ((k : ℕ) (d : T) → k < i → P (get_or ts k d)) → (k : ℕ) (d : T) → k < i + 1
    → P (get_or ts k d)
all_more P ts i t lt e here before k d below = elim (cases_lt k i) [
  | inl less ↦ before k d less
  | inr le ↦ (let same : i ≡ k = omega arith in
      subst P (get_or_read ts i t lt e d ∙ ap (λ (j : ℕ). get_or ts j d) same) here)
]

-- ---- lists of the code's values, seen by view

pub list_size-map : {A B : Type 0} (tlv : B → Tlv) (view : A → B) (xs : List A)
    → list_size (λ x. tlv (view x)) xs ≡ list_size tlv (map view xs)
list_size-map tlv view [] = refl
list_size-map tlv view (x ∷ []) = refl
list_size-map tlv view (x ∷ y ∷ xs) = rw (list_size-map tlv view (y ∷ xs)) refl

pub list_image-map : {A B : Type 0} (tlv : B → Tlv) (view : A → B) (xs : List A)
    → list_image (λ x. tlv (view x)) xs ≡ list_image tlv (map view xs)
list_image-map tlv view [] = refl
list_image-map tlv view (x ∷ []) = refl
list_image-map tlv view (x ∷ y ∷ xs) = rw (list_image-map tlv view (y ∷ xs)) refl

-- ---- images over zeros

pub written-zeros : (image : List (Option ℕ)) (n : ℕ) → length image ≤ n
    → written image (replicate n 0) ≡ zeroed image ++ replicate (n - length image) 0
written-zeros [] n le = ap (λ (k : ℕ). replicate k 0) (let e : n ≡ n - 0 = omega arith in e)
written-zeros (c ∷ image) zero le = absurd (omega arith)
written-zeros (c ∷ image) (suc n) le =
    let k : n - length image ≡ suc n - suc (length image) = omega arith in
    rw (written-zeros image n (omega arith), k) refl

pub zeroed-append : (a b : List (Option ℕ)) → zeroed (a ++ b) ≡ zeroed a ++ zeroed b
zeroed-append a b = map-append (λ cell. unwrap_or cell 0) a b

pub zeroed-holes : (n : ℕ) → zeroed (holes n) ≡ replicate n 0
zeroed-holes zero = refl
zeroed-holes (suc n) = ap (λ (xs : List ℕ). 0 ∷ xs) (zeroed-holes n)
