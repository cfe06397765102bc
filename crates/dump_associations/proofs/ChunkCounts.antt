-- The items that lie somewhere are counted, one after the other: the chunks of a packet, or the
-- causes of an ERROR.
use Rattle.std.proofs.Common.{◌≡◌, List, [], ◌∷◌, fold, true, false, refl, ap, subst, ◌∙◌}
use Rattle.dcsctp_borrowed.specs.Part.{Part, Item, AreItems, none, next, begins_with_item, first_item, after_item}
use Rattle.dcsctp_receive.specs.Chunks.{items_of}
use Rattle.dcsctp_borrowed.proofs.PacketItems.{one_list}
use Rattle.dcsctp_receive.proofs.ItemLists.{are_items}

module _ {Counts : Type 0} (with_item : Counts → Item → Counts) where
  -- whatever items are left, all are they and those before them that were counted
  abbrev pub Counting : Part → Counts → Part → Counts → Type 0
  Counting all start left now =
      (others : List Item) → AreItems left others → (items : List Item) × AreItems all items
      × (fold with_item now others ≡ fold with_item start items)

  pub Counting-none : (all : Part) (start : Counts) → Counting all start all start
  Counting-none all start = λ others are. (others, are, refl)

  pub Counting-next : (all left rest : Part) (start now more : Counts) (item : Item)
      → Counting all start left now → begins_with_item left ≡ true → item ≡ first_item left
      → rest ≡ after_item left → more ≡ with_item now item → Counting all start rest more
  Counting-next all left rest start now more item counting begins item_is rest_is more_is =
      λ others are.
      let before = counting (item ∷ others) (next left (item ∷ others) others begins
      (subst (λ p. AreItems p others) rest_is are) (ap (λ i. i ∷ others) item_is)) in (
        before.0,
        before.1,
        ap (λ (c : Counts). fold with_item c others) more_is ∙ before.2,
      )

  pub Counting-all : (all left : Part) (start now : Counts) → Counting all start left now
      → begins_with_item left ≡ false
      → (items : List Item) × AreItems all items × (now ≡ fold with_item start items)
  Counting-all all left start now counting none_left =
      counting [] (none left [] none_left refl)

  -- the same, of the list as a function
  pub Counting-list : (all left : Part) (start now : Counts) → Counting all start left now
      → begins_with_item left ≡ false → now ≡ fold with_item start (items_of all)
  Counting-list all left start now counting none_left =
      let counted = Counting-all all left start now counting none_left in
      counted.2
      ∙ ap (fold with_item start) (one_list all counted.0 (items_of all) counted.1 (are_items all))
