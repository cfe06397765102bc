-- The addresses that an INIT adds are listed as what is reported is: nothing stops it, and what
-- isn't new isn't listed.
use Rattle.std.proofs.Common.{◌≡◌, ◌||◌, ℕ, Bool, true, false, if◌then◌else◌, List, [], ◌∷◌, Some, None, map, refl, sym, ap, ap₂, ◌∙◌, inl, inr}
use Rattle.std.proofs.lemmas.Bool.{cases_Bool, cond-true, cond-false}
use Rattle.std.specs.List.{filter, list_any}
use Rattle.dcsctp_borrowed.specs.Part.{Item}
use Rattle.dcsctp_receive.specs.{Unrecognized.{is_reported, stops, looked_at, whole_item, wholes}, Restart.{is_new}, Handling.{address_action}}
use Rattle.dcsctp_receive.specs.declared.action.Action.TheVariants.{SkipAndReport}

goes_on : (b : Bool) → stops (if b then Some SkipAndReport else None) ≡ false
goes_on true = refl
goes_on false = refl

is_listed : (b : Bool) → is_reported (if b then Some SkipAndReport else None) ≡ b
is_listed true = refl
is_listed false = refl

all_looked_at : (known items : List Item) → looked_at (address_action known) items ≡ items
all_looked_at known [] = refl
all_looked_at known (i ∷ items) =
    ap₂ (λ (b : Bool) (l : List Item). i ∷ (if b then [] else l)) (goes_on (is_new known i))
    (all_looked_at known items)

filters_same : (f g : Item → Bool) → ((i : Item) → f i ≡ g i) → (items : List Item)
    → filter f items ≡ filter g items
filters_same f g same [] = refl
filters_same f g same (i ∷ items) =
    ap₂ (λ (b : Bool) (l : List Item). if b then i ∷ l else l) (same i)
    (filters_same f g same items)

pub listed : (known items : List Item)
    → wholes (address_action known) items ≡ map whole_item (filter (is_new known) items)
listed known items =
    let test = λ (i : Item). is_reported (address_action known i) in
    ap (λ (l : List Item). map whole_item (filter test l)) (all_looked_at known items)
    ∙ ap (map whole_item)
    (filters_same test (is_new known) (λ i. is_listed (is_new known i)) items)

pub some_listed : (test : Item → Bool) (items : List Item) (w : List ℕ) (ws : List (List ℕ))
    → map whole_item (filter test items) ≡ w ∷ ws → list_any test items ≡ true
some_listed test [] w ws e = absurd (cc)
some_listed test (i ∷ items) w ws e =
    let others = filter test items in
    elim (cases_Bool (test i)) [
      | inl met ↦ ap (λ (b : Bool). b || list_any test items) met
      | inr unmet ↦ ap (λ (b : Bool). b || list_any test items) unmet
          ∙ some_listed test items w ws
          (sym (ap (map whole_item) (cond-false (test i) (i ∷ others) others unmet)) ∙ e)
    ]

pub none_listed : (test : Item → Bool) (items : List Item)
    → map whole_item (filter test items) ≡ [] → list_any test items ≡ false
none_listed test [] e = refl
none_listed test (i ∷ items) e =
    let others = filter test items in
    elim (cases_Bool (test i)) [
      | inl met ↦ absurd (let some = sym (ap (map whole_item)
          (cond-true (test i) (i ∷ others) others met)) ∙ e in cc)
      | inr unmet ↦ ap (λ (b : Bool). b || list_any test items) unmet
          ∙ none_listed test items
          (sym (ap (map whole_item) (cond-false (test i) (i ∷ others) others unmet)) ∙ e)
    ]
