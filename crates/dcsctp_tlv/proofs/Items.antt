-- Items and frames: what is read from the front is the next item.
use Rattle.std.{proofs.Common.{◌≡◌, ◌≢◌, ℕ, suc, zero, ◌+◌, ◌-◌, ◌^◌, ◌<◌, ◌≤◌, true, List, [], ◌∷◌, ◌++◌, length, get_or, take, drop, refl, sym, ap, subst, ◌∙◌, append_assoc, arith, inl, inr, append-nil, take-append-drop, length-append, length-take, length-drop, take_at, drop_at, drop-drop}, specs.List.{flat_map, AllByRecursion}, specs.Int.{w16, to_be_bytes, from_be_bytes}, proofs.lemmas.Bool.{cases_lt}, proofs.lemmas.List.{drop_all}, proofs.lemmas.List.Concat.{flat_map-append}, proofs.lemmas.Nat.{be_bytes_2, from_be_bytes-to_be_bytes_2}}
use Rattle.dcsctp_tlv.specs.{Number.{AreBytes}, Frame.{round_up_to_4, padding_size, Item, item_bytes, HasLength, PaddingRule, IsWhole, AreFormed, frame_length, BeginsWithFrame, frame_value, frame_padding, frame_rest}}

-- an item, and what follows it: whole, or the last
pub record IsNext (rule : PaddingRule) (i : Item) (rest : List ℕ) : Type 0 where
  pub fits : HasLength i
  pub at_most : length i.padding ≤ padding_size (length i.value)
  pub whole : rest ≢ [] → length i.padding ≡ padding_size (length i.value)
  pub accepted : rule (padding_size (length i.value)) i.padding ≡ true

-- the items stand before a rest, which is empty where the last lacks padding
abbrev pub AreBefore : PaddingRule → List Item → List ℕ → Type 0
AreBefore rule [] rest = Unit {0}
AreBefore rule (i ∷ is) rest =
    IsNext rule i (flat_map item_bytes is ++ rest) × AreBefore rule is rest

-- the item that a frame at the front is
abbrev pub front_item : List ℕ → Item
front_item bytes = record {
  first = get_or bytes 0 0;
  second = get_or bytes 1 0;
  value = frame_value bytes;
  padding = frame_padding bytes;
}

-- ---- lists

pub cut : (n m : ℕ) (xs : List ℕ) → n ≤ m → take n xs ++ (take (m - n) (drop n xs) ++ drop m xs)
    ≡ xs
cut n m xs le =
    let k : n + (m - n) ≡ m = omega arith in
    let e : drop (m - n) (drop n xs) ≡ drop m xs = rw (drop-drop (m - n) n xs, k) refl in
    rw (← e, take-append-drop (m - n) (drop n xs)) (take-append-drop n xs)

pub same_front : (v w x y : List ℕ) → length v ≡ length w → v ++ x ≡ w ++ y → (v ≡ w) × (x ≡ y)
same_front v w x y len e = (
  sym (take_at v x (length w) len) ∙ ap (take (length w)) e ∙ take_at w y (length w) refl,
  sym (drop_at v x (length w) len) ∙ ap (drop (length w)) e ∙ drop_at w y (length w) refl,
)

more_left : (n : ℕ) (xs : List ℕ) → drop n xs ≢ [] → n < length xs
more_left n xs h =
    elim (cases_lt n (length xs)) [ inl lt ↦ lt | inr le ↦ absurd (h (drop_all n xs le)) ]

-- ---- a frame at the front

header_is : (a b c d : ℕ) (more : List ℕ) → AreBytes (a ∷ b ∷ c ∷ d ∷ more)
    → to_be_bytes w16 (frame_length (a ∷ b ∷ c ∷ d ∷ more)) ≡ c ∷ d ∷ []
header_is a b c d more fits = be_bytes_2 (c ∷ d ∷ []) (frame_length (a ∷ b ∷ c ∷ d ∷ more)) refl
    (two c d (fits 2) (fits 3)) refl where
      two : (c d : ℕ) → c < 256 → d < 256 → (i : ℕ) → get_or (c ∷ d ∷ []) i 0 < 256
      two c d p q zero = p
      two c d p q (suc zero) = q
      two c d p q (suc (suc i)) = omega arith

pub front_length : (bytes : List ℕ) → BeginsWithFrame bytes → 4 + length (frame_value bytes)
    ≡ frame_length bytes
front_length bytes frame =
    let len = frame_length bytes in
    omega (
      arith,
      frame.header,
      frame.low,
      frame.high,
      length-take (frame_length bytes - 4)
          (drop 4 bytes),
      length-drop 4 bytes,
    )

-- the bytes are the front item and the rest
pub front_split : (bytes : List ℕ) → AreBytes bytes → BeginsWithFrame bytes
    → bytes ≡ item_bytes (front_item bytes) ++ frame_rest bytes
front_split [] fits frame = absurd (omega (arith, frame.header))
front_split (a ∷ []) fits frame = absurd (omega (arith, frame.header))
front_split (a ∷ b ∷ []) fits frame = absurd (omega (arith, frame.header))
front_split (a ∷ b ∷ c ∷ []) fits frame = absurd (omega (arith, frame.header))
front_split (a ∷ b ∷ c ∷ d ∷ more) fits frame =
    let bytes : List ℕ = a ∷ b ∷ c ∷ d ∷ more in
    let len : ℕ = frame_length bytes in
    let low : 4 ≤ len = frame.low in
    let header : to_be_bytes w16 (4 + length (frame_value bytes)) ≡ c ∷ d ∷ [] =
    ap (to_be_bytes w16) (front_length bytes frame) ∙ header_is a b c d more fits in
    let k : 4 + (len - 4) ≡ len = omega arith in
    let m : 4 + (round_up_to_4 len - 4) ≡ round_up_to_4 len = omega arith in
    let from : drop len bytes ≡ drop (len - 4) more =
    ap (λ (j : ℕ). drop j bytes) (sym k) ∙ sym (drop-drop (len - 4) 4 bytes) in
    let to : drop (round_up_to_4 len) bytes ≡ drop (round_up_to_4 len - 4) more =
    ap (λ (j : ℕ). drop j bytes) (sym m) ∙ sym (drop-drop (round_up_to_4 len - 4) 4 bytes) in
    let wide : round_up_to_4 len - len ≡ (round_up_to_4 len - 4) - (len - 4) = omega arith in
    let parts : take (len - 4) more ++ (take (round_up_to_4 len - len) (drop len bytes)
    ++ drop (round_up_to_4 len) bytes) ≡ more =
    rw (from, to, wide) (cut (len - 4) (round_up_to_4 len - 4) more (omega arith)) in
    sym (ap (λ (h : List ℕ). a ∷ b ∷ (h ++ (frame_value bytes ++ frame_padding bytes))
    ++ frame_rest bytes) header
    ∙ ap (λ (t : List ℕ). a ∷ b ∷ c ∷ d ∷ t) (append_assoc (frame_value bytes) (frame_padding bytes)
    (frame_rest bytes) ∙ parts))

pub front_next : (rule : PaddingRule) (bytes : List ℕ) → AreBytes bytes → BeginsWithFrame bytes
    → rule (padding_size (length (frame_value bytes))) (frame_padding bytes) ≡ true
    → IsNext rule (front_item bytes) (frame_rest bytes)
front_next rule bytes fits frame accepted =
    let len = front_length bytes frame in
    let there = length-take (round_up_to_4 (frame_length bytes) - frame_length bytes)
    (drop (frame_length bytes) bytes) in
    let left = length-drop (frame_length bytes) bytes in
    record {
      fits = rw len (below bytes fits frame);
      at_most = omega (arith, len, there);
      whole = λ h. (let more = more_left (round_up_to_4 (frame_length bytes)) bytes h in
          omega (arith, len, there, left, more));
      accepted = accepted;
    } where
      below : (bytes : List ℕ) → AreBytes bytes → BeginsWithFrame bytes
          → frame_length bytes < 2 ^ 16
      below [] fits frame = absurd (omega (arith, frame.header))
      below (a ∷ []) fits frame = absurd (omega (arith, frame.header))
      below (a ∷ b ∷ []) fits frame = absurd (omega (arith, frame.header))
      below (a ∷ b ∷ c ∷ []) fits frame = absurd (omega (arith, frame.header))
      below (a ∷ b ∷ c ∷ d ∷ more) fits frame = omega (arith, fits 2, fits 3)

-- ---- no bytes begin with two items

pub next_one : (rule : PaddingRule) (i j : Item) (r s : List ℕ) → item_bytes i ++ r ≡ item_bytes j
    ++ s → IsNext rule i r → IsNext rule j s → (i ≡ j) × (r ≡ s)
next_one rule i j r s e p q =
    let header : to_be_bytes w16 (4 + length i.value) ≡ to_be_bytes w16 (4 + length j.value) = cc in
    let first : i.first ≡ j.first = cc in
    let second : i.second ≡ j.second = cc in
    let len : 4 + length i.value ≡ 4 + length j.value = sym (from_be_bytes-to_be_bytes_2
    (4 + length i.value) p.fits) ∙ ap (from_be_bytes w16) header ∙ from_be_bytes-to_be_bytes_2
    (4 + length j.value) q.fits in
    let tails : (i.value ++ i.padding) ++ r ≡ (j.value ++ j.padding) ++ s = cc in
    let tails' : i.value ++ (i.padding ++ r) ≡ j.value ++ (j.padding ++ s) =
    sym (append_assoc i.value i.padding r) ∙ tails ∙ append_assoc j.value j.padding s in
    let values =
    same_front i.value j.value (i.padding ++ r) (j.padding ++ s) (omega arith) tails' in
    let lens : length i.padding + length r ≡ length j.padding + length s =
    sym (length-append i.padding r) ∙ ap length values.1 ∙ length-append j.padding s in
    let same : length i.padding ≡ length j.padding = pads r s i.padding j.padding
    (padding_size (length i.value)) lens p.at_most
    (subst (λ (n : ℕ). length j.padding ≤ padding_size n) (omega arith) q.at_most) p.whole
    (λ h. q.whole h ∙ ap padding_size (omega arith)) in
    let paddings = same_front i.padding j.padding r s same values.1 in
    (made i j first second values.0 paddings.0, paddings.1) where
      pads : (r s x y : List ℕ) (n : ℕ) → length x + length r ≡ length y + length s → length x ≤ n
          → length y ≤ n → (r ≢ [] → length x ≡ n) → (s ≢ [] → length y ≡ n) → length x ≡ length y
      pads [] [] x y n e p q f g = omega arith
      pads [] (b ∷ s) x y n e p q f g = let h : length y ≡ n = g (λ c. cc) in omega arith
      pads (a ∷ r) [] x y n e p q f g = let h : length x ≡ n = f (λ c. cc) in omega arith
      pads (a ∷ r) (b ∷ s) x y n e p q f g = let h : length x ≡ n =
          f (λ c. cc) in let k : length y ≡ n = g (λ c. cc) in omega arith

      made : (i j : Item) → i.first ≡ j.first → i.second ≡ j.second → i.value ≡ j.value
          → i.padding ≡ j.padding → i ≡ j
      made i j a b c d = λ k. record { first = a k; second = b k; value = c k; padding = d k }

-- ---- the front of an item's bytes

pub item_frame : (rule : PaddingRule) (i : Item) (r : List ℕ) → IsNext rule i r
    → BeginsWithFrame (item_bytes i ++ r)
item_frame rule i r p =
    let len : frame_length (item_bytes i ++ r) ≡ 4 + length i.value =
    from_be_bytes-to_be_bytes_2 (4 + length i.value) p.fits in
    let all : length ((i.value ++ i.padding) ++ r) ≡ length (i.value ++ i.padding) + length r =
    length-append (i.value ++ i.padding) r in
    let two = length-append i.value i.padding in
    record {
      header = omega (arith, all);
      low = omega (arith, len);
      high = omega (arith, len, all, two);
    }

-- ---- lists of items

-- one item more at the end
pub with_last : (is : List Item) (i : Item) (r : List ℕ) → flat_map item_bytes is
    ++ (item_bytes i ++ r) ≡ flat_map item_bytes (is ++ i ∷ []) ++ r
with_last is i r = simp (flat_map-append, append_assoc, append-nil)

pub before_push : (rule : PaddingRule) (is : List Item) (i : Item) (r : List ℕ)
    → AreBefore rule is (item_bytes i ++ r) → IsNext rule i r → AreBefore rule (is ++ i ∷ []) r
before_push rule [] i r p q = (q, tt)
before_push rule (j ∷ is) i r p q =
    (subst (IsNext rule j) (with_last is i r) p.0, before_push rule is i r p.1 q)

whole_next : (rule : PaddingRule) (i : Item) (r : List ℕ) → r ≢ [] → IsNext rule i r
    → IsWhole rule i
whole_next rule i r h p = record { fits = p.fits; padded = p.whole h; accepted = p.accepted }

pub before_end : (rule : PaddingRule) (is : List Item) → AreBefore rule is [] → AreFormed rule is
before_end rule [] p = tt
before_end rule (i ∷ []) p =
    record { fits = p.0.fits; padded = p.0.at_most; accepted = p.0.accepted }
before_end rule (i ∷ j ∷ is) p = (whole_next rule i _ (λ c. cc) p.0, before_end rule (j ∷ is) p.1)

joined_not_nil : (xs rest : List ℕ) → rest ≢ [] → xs ++ rest ≢ []
joined_not_nil [] rest h = h
joined_not_nil (x ∷ xs) rest h = λ c. cc

pub before_rest : (rule : PaddingRule) (is : List Item) (rest : List ℕ) → rest ≢ []
    → AreBefore rule is rest → AllByRecursion (IsWhole rule) is
before_rest rule [] rest h p = tt
before_rest rule (i ∷ is) rest h p = (
  whole_next rule i _ (joined_not_nil (flat_map item_bytes is)
      rest h) p.0,
  before_rest rule is rest h p.1,
)

next_whole : (rule : PaddingRule) (i : Item) (r : List ℕ) → IsWhole rule i → IsNext rule i r
next_whole rule i r p = record {
  fits = p.fits;
  at_most = omega (arith, p.padded);
  whole = λ _. p.padded;
  accepted = p.accepted;
}

pub items_before : (rule : PaddingRule) (is : List Item) → AreFormed rule is → AreBefore rule is []
items_before rule [] p = tt
items_before rule (i ∷ []) p = (
  record {
    fits = p.fits;
    at_most = p.padded;
    whole = λ h. absurd (h refl);
    accepted = p.accepted;
  },
  tt,
)
items_before rule (i ∷ j ∷ is) p = (next_whole rule i _ p.0, items_before rule (j ∷ is) p.1)

pub whole_before : (rule : PaddingRule) (is : List Item) (rest : List ℕ)
    → AllByRecursion (IsWhole rule) is → AreBefore rule is rest
whole_before rule [] rest p = tt
whole_before rule (i ∷ is) rest p = (next_whole rule i _ p.0, whole_before rule is rest p.1)
