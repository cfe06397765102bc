-- What is reported of a list, item after item; and that the bytes of an item are its header and its
-- value.
use Rattle.std.proofs.{Common.{◌≡◌, ℕ, ◌+◌, ◌-◌, ◌<◌, ◌≤◌, ◌^◌, ◌==◌, ◌&&◌, nat_le, min, Bool, true, false, if◌then◌else◌, List, [], ◌∷◌, ◌++◌, Option, Some, None, inl, inr, map, length, take, drop, refl, sym, ap, ap₂, subst, ◌∙◌, arith, length-drop}, lemmas.Bool.{cases_Bool, and_parts, leb-true, cond-true, cond-false}, lemmas.List.{drop-take}, Math.Seq.{take-add}}
use Rattle.std.specs.{Int.{w16, to_be_bytes}, List.{filter, list_any}, Option.{option_map}}
use Rattle.dcsctp_tlv.specs.{Frame.{round_up_to_4}, Number.{AreBytes, number16}}
use Rattle.dcsctp_borrowed.{specs.Part.{Part, Item, front, after, begins_with_item, first_item, after_item, length_field}, proofs.Rewritten.{half_again}, proofs.Widths.{half_at}, proofs.FrameItems.{bytes_after}}
use Rattle.dcsctp_receive.specs.{Chunks.{items_of}, Action.{action_to_parameter}, Unrecognized.{type_of, parameter_action, is_reported, stops, stop_offset, looked_at, padded_size, whole_item, wholes}, declared.action.Action.{Action}}
use Rattle.dcsctp_receive.proofs.ItemLists.{items_next, items_end}

-- ---- the item's bytes

-- the item has its header, and no more than is left
pub record Begins (p : Part) : Type 0 where
  pub header : 4 ≤ length p.bytes
  pub low : 4 ≤ length_field p
  pub high : length_field p ≤ p.size

pub begins : (p : Part) → begins_with_item p ≡ true → Begins p
begins p is =
    let all = and_parts (nat_le 4 (length p.bytes) && nat_le 4 (length_field p))
    (nat_le (length_field p) p.size) is in
    let both = and_parts (nat_le 4 (length p.bytes)) (nat_le 4 (length_field p)) all.0 in
    record {
      header = leb-true 4 (length p.bytes) both.0;
      low = leb-true 4 (length_field p) both.1;
      high = leb-true (length_field p) p.size all.1;
    }

whole_at : (bytes : List ℕ) (size : ℕ) → Begins (record { bytes = bytes; size = size })
    → AreBytes bytes
    → take (4 + (first_item (record { bytes = bytes; size = size })).value.size) bytes
    ≡ whole_item (first_item (record { bytes = bytes; size = size }))
whole_at [] size b fits = absurd (omega (arith, b.header))
whole_at (_ ∷ []) size b fits = absurd (omega (arith, b.header))
whole_at (_ ∷ _ ∷ []) size b fits = absurd (omega (arith, b.header))
whole_at (_ ∷ _ ∷ _ ∷ []) size b fits = absurd (omega (arith, b.header))
whole_at (x ∷ y ∷ z ∷ w ∷ more) size b fits =
    let bytes : List ℕ = x ∷ y ∷ z ∷ w ∷ more in
    let len : ℕ = number16 (z ∷ w ∷ more) in
    let n : ℕ = min len size - 4 in
    let low : 4 ≤ len = b.low in
    let high : len ≤ size = b.high in
    let back : 4 + n ≡ len = omega arith in
    let field : to_be_bytes w16 (4 + n) ≡ z ∷ w ∷ [] =
    ap (to_be_bytes w16) back ∙ half_again (z ∷ w ∷ more) (omega arith) (bytes_after 2 bytes fits)
    in
    let value : drop 4 (take len bytes) ≡ take n more =
    ap (λ (k : ℕ). drop 4 (take k bytes)) (sym back) ∙ drop-take 4 n bytes in
    take-add 4 n bytes
    ∙ sym (ap₂ (λ (f v : List ℕ). x ∷ y ∷ (f ++ v)) field value)

pub whole_is : (p : Part) → begins_with_item p ≡ true → AreBytes p.bytes
    → take (4 + (first_item p).value.size) p.bytes ≡ whole_item (first_item p)
whole_is p is fits = whole_at p.bytes p.size (begins p is) fits

-- ---- what is left after an item

abbrev left_of : Bool → Part → Part
left_of stop p = if stop then front 0 (after_item p) else after_item p

empty_none : (p : Part) → items_of (front 0 p) ≡ []
empty_none p = items_end (front 0 p) refl

left_items : (stop : Bool) (p : Part)
    → items_of (left_of stop p) ≡ (if stop then [] else items_of (after_item p))
left_items true p = empty_none (after_item p)
left_items false p = refl

looked_left : (action : Item → Option Action) (stop : Bool) (is : List Item)
    → (if stop then [] else looked_at action is) ≡ looked_at action (if stop then [] else is)
looked_left action true is = refl
looked_left action false is = refl

less : (stop : Bool) (p : Part) → Begins p → length (left_of stop p).bytes < length p.bytes
less true p b = omega (arith, b.header)
less false p b =
    omega (arith, b.header, b.low, length-drop (round_up_to_4 (length_field p)) p.bytes)

-- ---- what is reported

module _ (action : Item → Option Action) (p left : Part) (i : Item) (act : Option Action)
    (stop : Bool) (count : ℕ) (some : begins_with_item p ≡ true) (is : i ≡ first_item p)
    (act_is : act ≡ action i) (stop_is : stop ≡ stops act)
    (count_is : count ≡ round_up_to_4 (length_field p))
    (rest_is : left ≡ (if stop then front 0 (after count p) else after count p)) where
  left_is : left ≡ left_of (stops (action i)) p
  left_is =
      rest_is ∙ ap (λ (n : ℕ). if stop then front 0 (after n p) else after n p) count_is
      ∙ ap (λ (s : Bool). left_of s p) (stop_is ∙ ap stops act_is)

  looked : looked_at action (items_of p) ≡ i ∷ looked_at action (items_of left)
  looked =
      ap (looked_at action) (items_next p some)
      ∙ ap (λ (j : Item). j ∷ (if stops (action j) then [] else looked_at action (items_of
      (after_item p)))) (sym is)
      ∙ ap (λ (l : List Item). i ∷ l)
      (looked_left action (stops (action i)) (items_of (after_item p))
      ∙ ap (looked_at action) (sym (left_items (stops (action i)) p)
      ∙ ap items_of (sym left_is)))

  -- fewer bytes are left
  pub left_less : length left.bytes < length p.bytes
  left_less =
      subst (λ (q : Part). length q.bytes < length p.bytes) (sym left_is)
      (less (stops (action i)) p (begins p some))

  pub reported_first : (met : Bool) → met ≡ is_reported act → met ≡ true
      → wholes action (items_of p) ≡ whole_item i ∷ wholes action (items_of left)
  reported_first met met_is holds =
      let test = λ (j : Item). is_reported (action j) in
      let others = filter test (looked_at action (items_of left)) in
      ap (λ (l : List Item). map whole_item (filter test l)) looked
      ∙ ap (map whole_item) (cond-true (test i) (i ∷ others) others
      (ap is_reported (sym act_is) ∙ sym met_is ∙ holds))

  pub reported_later : (met : Bool) → met ≡ is_reported act → met ≡ false
      → wholes action (items_of p) ≡ wholes action (items_of left)
  reported_later met met_is fails =
      let test = λ (j : Item). is_reported (action j) in
      let others = filter test (looked_at action (items_of left)) in
      ap (λ (l : List Item). map whole_item (filter test l)) looked
      ∙ ap (map whole_item) (cond-false (test i) (i ∷ others) others
      (ap is_reported (sym act_is) ∙ sym met_is ∙ fails))

pub reported_none : (action : Item → Option Action) (p : Part) → begins_with_item p ≡ false
    → wholes action (items_of p) ≡ []
reported_none action p ends = ap (wholes action) (items_end p ends)

-- the item's bytes, as they are read
pub whole_read : (p whole : Part) (i : Item) → begins_with_item p ≡ true → i ≡ first_item p
    → AreBytes p.bytes → whole ≡ front (4 + i.value.size) p → whole.bytes ≡ whole_item i
whole_read p whole i some is fits e =
    ap (λ (q : Part). q.bytes) e
    ∙ ap (λ (j : Item). take (4 + j.value.size) p.bytes) is
    ∙ whole_is p some fits
    ∙ ap whole_item (sym is)

pub whole_fits : (p : Part) (i : Item) → begins_with_item p ≡ true → i ≡ first_item p
    → AreBytes p.bytes → 4 + i.value.size < 2 ^ 64
whole_fits p i some is fits =
    let small : length_field p < 2 ^ 16 = half_at 2 p.bytes fits in
    let value : i.value.size ≡ min (length_field p) p.size - 4 =
    ap (λ (j : Item). j.value.size) is in
    omega (arith, value, small)

pub after_less : (p left : Part) (count : ℕ) → begins_with_item p ≡ true
    → count ≡ round_up_to_4 (length_field p) → left ≡ after count p
    → length left.bytes < length p.bytes
after_less p left count some count_is e =
    subst (λ (q : Part). length q.bytes < length p.bytes)
    (sym (e ∙ ap (λ (n : ℕ). after n p) count_is)) (less false p (begins p some))

-- ---- a parameter's type

pub known_type : (known : List ℕ) (p : Item) (typ : ℕ) (met : Bool) → typ ≡ type_of p
    → met ≡ list_any (λ t. t == typ) known → met ≡ true → None ≡ parameter_action known p
known_type known p typ met is met_is holds =
    sym (cond-true (list_any (λ t. t == type_of p) known) None
    (Some (action_to_parameter (type_of p)))
    (ap (λ (n : ℕ). list_any (λ t. t == n) known) (sym is) ∙ sym met_is ∙ holds))

pub unknown_type : (known : List ℕ) (p : Item) (typ : ℕ) (met : Bool) (act : Action)
    → typ ≡ type_of p → met ≡ list_any (λ t. t == typ) known → met ≡ false
    → act ≡ action_to_parameter typ → Some act ≡ parameter_action known p
unknown_type known p typ met act is met_is fails act_is =
    ap (λ (a : Action). Some a) (act_is ∙ ap action_to_parameter is)
    ∙ sym (cond-false (list_any (λ t. t == type_of p) known) None
    (Some (action_to_parameter (type_of p)))
    (ap (λ (n : ℕ). list_any (λ t. t == n) known) (sym is) ∙ sym met_is ∙ fails))

-- ---- where processing stops

shifted : (o : Option ℕ) (a b : ℕ) → ((n : ℕ) → o ≡ Some n → a ≡ b)
    → option_map (λ (n : ℕ). a + n) o ≡ option_map (λ (n : ℕ). b + n) o
shifted None a b h = refl
shifted (Some n) a b h = ap (λ (m : ℕ). Some (m + n)) (h n refl)

shifted_twice : (o : Option ℕ) (a b : ℕ)
    → option_map (λ (n : ℕ). a + n) (option_map (λ (n : ℕ). b + n) o)
    ≡ option_map (λ (n : ℕ). (a + b) + n) o
shifted_twice None a b = refl
shifted_twice (Some n) a b =
    let e : a + (b + n) ≡ (a + b) + n = omega arith in ap (λ (m : ℕ). Some m) e

pub unshifted : (o : Option ℕ) (a : ℕ) → a ≡ 0 → o ≡ option_map (λ (n : ℕ). a + n) o
unshifted None a zero_is = refl
unshifted (Some n) a zero_is =
    let e : n ≡ a + n = omega arith in ap (λ (m : ℕ). Some m) e

-- an item is there where processing stops
stop_begins : (action : Item → Option Action) (p : Part) (n : ℕ)
    → stop_offset action (items_of p) ≡ Some n → 4 ≤ length p.bytes
stop_begins action p n e = elim (cases_Bool (begins_with_item p)) [
  | inl some ↦ (begins p some).header
  | inr ends ↦ absurd (let none = ap (stop_offset action) (items_end p ends) in cc)
]

module _ (action : Item → Option Action) (all p : Part) (i : Item) (act : Option Action)
    (stop : Bool) (some : begins_with_item p ≡ true) (is : i ≡ first_item p)
    (act_is : act ≡ action i) (stop_is : stop ≡ stops act)
    (fewer : length p.bytes ≤ length all.bytes)
    (so_far : stop_offset action (items_of all)
    ≡ option_map (λ (n : ℕ). (length all.bytes - length p.bytes) + n)
    (stop_offset action (items_of p))) where
  next_stop : stop_offset action (items_of p)
      ≡ (if stops (action i) then Some 0 else
      option_map (λ (n : ℕ). padded_size i + n) (stop_offset action (items_of (after_item p))))
  next_stop =
      ap (stop_offset action) (items_next p some)
      ∙ ap (λ (j : Item). if stops (action j) then Some 0 else
      option_map (λ (n : ℕ). padded_size j + n) (stop_offset action (items_of (after_item p))))
      (sym is)

  pub stops_here : stop ≡ true
      → Some (length all.bytes - length p.bytes) ≡ stop_offset action (items_of all)
  stops_here holds =
      let here = cond-true (stops (action i)) (Some 0)
      (option_map (λ (n : ℕ). padded_size i + n) (stop_offset action (items_of (after_item p))))
      (ap stops (sym act_is) ∙ sym stop_is ∙ holds) in
      let e : (length all.bytes - length p.bytes) + 0 ≡ length all.bytes - length p.bytes =
      omega arith in
      sym (so_far
      ∙ ap (option_map (λ (n : ℕ). (length all.bytes - length p.bytes) + n)) (next_stop ∙ here)
      ∙ ap (λ (m : ℕ). Some m) e)

  pub stops_later : (left : Part) (count : ℕ) → stop ≡ false
      → count ≡ round_up_to_4 (length_field p) → left ≡ after count p
      → stop_offset action (items_of all)
      ≡ option_map (λ (n : ℕ). (length all.bytes - length left.bytes) + n)
      (stop_offset action (items_of left))
  stops_later left count fails count_is left_eq =
      let q = after_item p in
      let a = length all.bytes - length p.bytes in
      let b = begins p some in
      let later = cond-false (stops (action i)) (Some 0)
      (option_map (λ (n : ℕ). padded_size i + n) (stop_offset action (items_of q)))
      (ap stops (sym act_is) ∙ sym stop_is ∙ fails) in
      let value : i.value.size ≡ min (length_field p) p.size - 4 =
      ap (λ (j : Item). j.value.size) is in
      let pad : padded_size i ≡ round_up_to_4 (length_field p) =
      ap round_up_to_4 (let e : 4 + i.value.size ≡ length_field p =
      omega (arith, value, b.low, b.high) in e) in
      let same : left ≡ q = left_eq ∙ ap (λ (n : ℕ). after n p) count_is in
      so_far
      ∙ ap (option_map (λ (n : ℕ). a + n)) (next_stop ∙ later)
      ∙ shifted_twice (stop_offset action (items_of q)) a (padded_size i)
      ∙ shifted (stop_offset action (items_of q)) (a + padded_size i)
      (length all.bytes - length q.bytes)
      (λ n e. omega (
        arith,
        stop_begins action q n e,
        length-drop (round_up_to_4 (length_field p)) p.bytes,
        fewer,
        pad,
      ))
      ∙ ap (λ (r : Part). option_map (λ (n : ℕ). (length all.bytes - length r.bytes) + n)
      (stop_offset action (items_of r))) (sym same)

pub stops_nowhere : (action : Item → Option Action) (all p : Part)
    → begins_with_item p ≡ false
    → stop_offset action (items_of all)
    ≡ option_map (λ (n : ℕ). (length all.bytes - length p.bytes) + n)
    (stop_offset action (items_of p))
    → None ≡ stop_offset action (items_of all)
stops_nowhere action all p ends so_far =
    sym (so_far ∙ ap (λ (l : List Item). option_map (λ (n : ℕ). (length all.bytes
    - length p.bytes) + n) (stop_offset action l)) (items_end p ends))
