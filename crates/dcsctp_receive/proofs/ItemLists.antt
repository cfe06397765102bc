-- The items that lie somewhere are the first and those after it: what a loop over them finds.
use Rattle.std.proofs.Common.{◌≡◌, ◌<◌, ◌||◌, ◌&&◌, nat_le, nat_lt, ℕ, zero, suc, Bool, true, false, List, [], ◌∷◌, Option, Some, None, length, if◌then◌else◌, refl, sym, ap, subst, ◌∙◌, arith, inl, inr}
use Rattle.std.proofs.lemmas.Bool.{cases_Bool, both_ways, and_parts, leb-true, lt-ltb, cond-true, cond-false}
use Rattle.std.proofs.lemmas.List.{length-drop}
use Rattle.std.specs.{Prelude.{find}, List.{list_any}, Option.{is_some}}
use Rattle.dcsctp_tlv.specs.Frame.{round_up_to_4}
use Rattle.dcsctp_borrowed.{specs.Part.{Part, Item, AreItems, none, next, begins_with_item, first_item, after_item, length_field}, proofs.PacketItems.{one_list}}
use Rattle.dcsctp_borrowed.specs.declared.part.Part as code
use Rattle.dcsctp_receive.specs.{Chunks.{items_within, items_of, is_of_type, begins_with, only}, Fields.{after_first}, ChunkTest.{IsFound}}

-- an item isn't empty, so fewer bytes follow it
pub fewer : (p : Part) → begins_with_item p ≡ true → length (after_item p).bytes < length p.bytes
fewer p begins =
    let long_enough = nat_le 4 (length p.bytes) in
    let both = and_parts (long_enough && nat_le 4 (length_field p)) (nat_le (length_field p) p.size)
    begins in
    let front = and_parts long_enough (nat_le 4 (length_field p)) both.0 in
    omega (
      arith,
      leb-true 4 (length p.bytes) front.0,
      leb-true 4 (length_field p) front.1,
      length-drop (round_up_to_4 (length_field p)) p.bytes,
    )

are_within : (n : ℕ) (p : Part) → length p.bytes < n → AreItems p (items_within n p)
are_within zero p few = absurd (omega (arith, few))
are_within (suc n) p few =
    let items = first_item p ∷ items_within n (after_item p) in
    elim (cases_Bool (begins_with_item p)) [
      | inl begins ↦ subst (AreItems p) (sym (cond-true (begins_with_item p) items [] begins))
          (next p items (items_within n (after_item p)) begins
          (are_within n (after_item p) (omega (arith, few, fewer p begins))) refl)
      | inr ends ↦ subst (AreItems p) (sym (cond-false (begins_with_item p) items [] ends))
          (none p [] ends refl)
    ]

pub are_items : (p : Part) → AreItems p (items_of p)
unfolding items_of
are_items p = are_within (suc (length p.bytes)) p (omega arith)

next_of : (p : Part) (items : List Item) → begins_with_item p ≡ true → AreItems p items
    → items ≡ first_item p ∷ items_of (after_item p)
next_of p items begins (none _ _ ends is_empty) =
    absurd (both_ways (begins_with_item p) ends begins)
next_of p items begins (next _ _ others _ are items_are) =
    items_are ∙ ap (λ (l : List Item). first_item p ∷ l)
    (one_list (after_item p) others (items_of (after_item p)) are (are_items (after_item p)))

pub items_next : (p : Part) → begins_with_item p ≡ true
    → items_of p ≡ first_item p ∷ items_of (after_item p)
items_next p begins = next_of p (items_of p) begins (are_items p)

end_of : (p : Part) (items : List Item) → begins_with_item p ≡ false → AreItems p items
    → items ≡ []
end_of p items ends (none _ _ _ is_empty) = is_empty
end_of p items ends (next _ _ others begins are items_are) =
    absurd (both_ways (begins_with_item p) ends begins)

pub items_end : (p : Part) → begins_with_item p ≡ false → items_of p ≡ []
items_end p ends = end_of p (items_of p) ends (are_items p)

-- ---- the loop that looks for an item

pub first_met : (test : Item → Bool) (p : Part) (i : Item) → begins_with_item p ≡ true
    → i ≡ first_item p → test i ≡ true → find test (items_of p) ≡ Some i
first_met test p i begins is met =
    ap (find test) (items_next p begins)
    ∙ cond-true (test (first_item p)) (Some (first_item p)) (find test (items_of (after_item p)))
    (ap test (sym is) ∙ met)
    ∙ ap (λ (i : Item). Some i) (sym is)

pub first_on : (test : Item → Bool) (p : Part) (i : Item) → begins_with_item p ≡ true
    → i ≡ first_item p → test i ≡ false
    → find test (items_of p) ≡ find test (items_of (after_item p))
first_on test p i begins is unmet =
    ap (find test) (items_next p begins)
    ∙ cond-false (test (first_item p)) (Some (first_item p)) (find test (items_of (after_item p)))
    (ap test (sym is) ∙ unmet)

pub is_found : (test : Item → Bool) (items : List Item)
    → is_some (find test items) ≡ list_any test items
is_found test [] = refl
is_found test (i ∷ items) =
    elim (test i) as (λ b. is_some (if b then Some i else find test items)
    ≡ (b || list_any test items)) [ true ↦ refl | false ↦ is_found test items ]

-- ---- the loop that looks for a chunk, and what follows it

-- The first of all chunks that meets the test is among those that are left.
abbrev pub Looks : (Item → Bool) → Part → Part → Type 0
Looks test all left =
    (list_any test (items_of all) ≡ list_any test (items_of left))
    × (after_first test (items_of all) ≡ after_first test (items_of left))

abbrev here : (Item → Bool) → Part → Bool → Type 0
here test p b =
    let others = items_of (after_item p) in
    (list_any test (items_of p) ≡ (b || list_any test others))
    × (after_first test (items_of p) ≡ (if b then others else after_first test others))

-- by whether the first chunk meets it
first_is : (test : Item → Bool) (p : Part) (b : Bool) → begins_with_item p ≡ true
    → test (first_item p) ≡ b → here test p b
first_is test p b begins is =
    let others = items_of (after_item p) in
    let items = items_next p begins in (
      ap (list_any test) items ∙ ap (λ b. b || list_any test others) is,
      ap (after_first test) items
          ∙ ap (λ (b : Bool). if b then others else after_first test others) is,
    )

pub Looks-on : (test : Item → Bool) (all left : Part) → begins_with_item left ≡ true
    → test (first_item left) ≡ false → Looks test all left → Looks test all (after_item left)
Looks-on test all left begins unmet looks =
    let on = first_is test left false begins unmet in (looks.0 ∙ on.0, looks.1 ∙ on.1)

pub Looks-found : (test : Item → Bool) (all left : Part) → begins_with_item left ≡ true
    → test (first_item left) ≡ true → Looks test all left
    → (list_any test (items_of all) ≡ true)
    × (after_first test (items_of all) ≡ items_of (after_item left))
Looks-found test all left begins met looks =
    let found = first_is test left true begins met in (looks.0 ∙ found.0, looks.1 ∙ found.1)

pub Looks-end : (test : Item → Bool) (all left : Part) → begins_with_item left ≡ false
    → Looks test all left
    → (list_any test (items_of all) ≡ false) × (after_first test (items_of all) ≡ [])
Looks-end test all left ends looks =
    let none = items_end left ends in
    (looks.0 ∙ ap (list_any test) none, looks.1 ∙ ap (after_first test) none)

pub some_is_found : (test : Item → Bool) (items : List Item) (found : Option code.Part)
    → IsFound test items found → is_some found ≡ list_any test items
some_is_found test items (Some rest) is = sym is.0
some_is_found test items None is = sym is.0

pub has_two : (items : List Item)
    → list_any (λ c. true) (after_first (λ c. true) items) ≡ nat_lt 1 (length items)
has_two [] = refl
has_two (first ∷ []) = refl
has_two (first ∷ second ∷ items) =
    sym (lt-ltb 1 (length (first ∷ second ∷ items)) (omega arith))

-- ---- one chunk, and no other

pub begins_with_first : (typ : ℕ) (p : Part) (i : Item) → begins_with_item p ≡ true
    → i ≡ first_item p → is_of_type typ i ≡ begins_with typ (items_of p)
begins_with_first typ p i begins is =
    ap (is_of_type typ) is ∙ sym (ap (begins_with typ) (items_next p begins))

pub only_one : (typ : ℕ) (p : Part) → begins_with_item p ≡ true
    → begins_with_item (after_item p) ≡ false
    → only typ (items_of p) ≡ only typ (first_item p ∷ [])
only_one typ p begins ends =
    ap (only typ) (items_next p begins
    ∙ ap (λ (l : List Item). first_item p ∷ l) (items_end (after_item p) ends))

pub not_only : (typ : ℕ) (p : Part) → begins_with_item p ≡ true
    → begins_with_item (after_item p) ≡ true → only typ (items_of p) ≡ None
not_only typ p begins more =
    ap (only typ) (items_next p begins
    ∙ ap (λ (l : List Item). first_item p ∷ l) (items_next (after_item p) more))
