-- The items that lie in bytes are written again one after the other, as what they mean is written.
use Rattle.std.{proofs.Common.{◌≡◌, ◌≢◌, ℕ, zero, suc, ◌+◌, ◌^◌, ◌<◌, ◌≤◌, Bool, true, false, Option, List, [], ◌∷◌, ◌++◌, length, map, get_or, take, drop, refl, sym, ap, ap₂, subst, ◌∙◌, arith, add-one, take_all, length-drop}, specs.List.{AllByRecursion}, proofs.lemmas.Bool.Decides.{nat_tests}}
use Rattle.dcsctp_tlv.{specs.Frame.{Item, PaddingRule, AreItems, BeginsWithFrame, frame_rest, round_up_to_4}, specs.Image.{Tlv, solid, size_of, image_of, written, list_image, list_size, listed_tlv, IsListEncodable}, specs.Level.{Level, ItemsMean, MeansTrees}, specs.Number.{AreBytes}, proofs.Items.{front_item}, proofs.Checks.{first_item, frame_shrinks}, proofs.Images.{list_image-map, list_size-map, room_for, total_more, written_more}, proofs.Listed.{list_encodable}}
use Rattle.dcsctp_borrowed.{specs.Grammar.{whole}, specs.Part.{begins_with_item}, specs.Rewritten.{IsByteItem, Again, item_again, first_items, items_of, all_again, again_size, listed_again}, proofs.FrameItems.{begins, bytes_after}, proofs.Rewritten.{first_bytes}}

-- ---- the items that lie in bytes

pub begins_back : (bytes : List ℕ) → begins_with_item (whole bytes) ≡ true → BeginsWithFrame bytes
begins_back bytes e = record {
  header = grind (arith, nat_tests);
  low = grind (arith, nat_tests);
  high = grind (arith, nat_tests);
}

begins_not : (bytes : List ℕ) → ¬ BeginsWithFrame bytes → begins_with_item (whole bytes) ≡ false
begins_not bytes none = tested (begins_with_item (whole bytes)) refl where
  tested : (b : Bool) → begins_with_item (whole bytes) ≡ b → begins_with_item (whole bytes) ≡ false
  tested false e = e
  tested true e = absurd (none (begins_back bytes e))

pub next_in : (n : ℕ) (bytes : List ℕ) → BeginsWithFrame bytes → length bytes ≤ n
    → (k : ℕ) × (first_items n bytes ≡ front_item bytes ∷ first_items k (frame_rest bytes))
    × (length (frame_rest bytes) ≤ k)
next_in zero bytes frame le = absurd (omega (arith, frame.header, le))
next_in (suc k) bytes frame le =
    (k, rw (begins bytes frame) refl, omega (arith, frame_shrinks bytes frame, frame.low, le))

pub end_in : (n : ℕ) (bytes : List ℕ) → ¬ BeginsWithFrame bytes → first_items n bytes ≡ []
end_in zero bytes none = refl
end_in (suc k) bytes none = rw (begins_not bytes none) refl

-- items that all the bytes are lie in them
pub items_are : (rule : PaddingRule) (items : List Item) (n : ℕ) (bytes : List ℕ) → AreBytes bytes
    → length bytes ≤ n → AreItems rule bytes items → first_items n bytes ≡ items
items_are rule [] n bytes fits le are =
    end_in n bytes (λ frame. omega (arith, frame.header, ap length are.split))
items_are rule (i ∷ is) n bytes fits le are =
    let some : bytes ≢ [] = λ e. omega (arith, ap length (sym e ∙ are.split)) in
    let f = first_item rule bytes (i ∷ is) fits some are in
    let split = f.split in
    let others : f.others ≡ is = cc split in
    let first : front_item bytes ≡ i = cc split in
    let next = next_in n bytes f.frame le in
    next.1
    ∙ ap₂ (λ (j : Item) (js : List Item). j ∷ js) first
    (items_are rule is next.0 (frame_rest bytes) (bytes_after _ bytes fits) next.2
    (subst (AreItems rule (frame_rest bytes)) others f.are))

pub byte_items : (rule : PaddingRule) (items : List Item) (bytes : List ℕ) → AreBytes bytes
    → AreItems rule bytes items → AllByRecursion IsByteItem items
byte_items rule [] bytes fits are = tt
byte_items rule (i ∷ is) bytes fits are =
    let some : bytes ≢ [] = λ e. omega (arith, ap length (sym e ∙ are.split)) in
    let f = first_item rule bytes (i ∷ is) fits some are in
    let split = f.split in
    let others : f.others ≡ is = cc split in
    let first : front_item bytes ≡ i = cc split in (
      subst IsByteItem first (record {
        first = fits 0;
        second = fits 1;
        value = first_bytes _ (drop 4 bytes) (bytes_after 4 bytes fits);
      }),
      byte_items rule is (frame_rest bytes) (bytes_after _ bytes fits)
          (subst (AreItems rule (frame_rest bytes)) others f.are),
    )

-- ---- as what they mean

-- a list of a level whose items are written as what they mean
module _ {T : Type 0} (level : Level T) (tlv : T → Tlv) (again : Again)
    (each : (i : Item) (t : T) → IsByteItem i → (level.row i.first i.second).means i.value t
    → tlv t ≡ item_again again i) where
  each_again : (items : List Item) (trees : List T) → AllByRecursion IsByteItem items
      → ItemsMean level items trees → map tlv trees ≡ map (item_again again) items
  each_again [] [] fits mean = refl
  each_again [] (t ∷ ts) fits mean = absurd mean
  each_again (i ∷ is) [] fits mean = absurd mean
  each_again (i ∷ is) (t ∷ ts) fits mean =
      rw (each i t fits.0 mean.0, each_again is ts fits.1 mean.1) refl

  pub trees_again : (bytes : List ℕ) (trees : List T) → AreBytes bytes
      → MeansTrees level bytes trees → map tlv trees ≡ all_again again bytes
  trees_again bytes trees fits m =
      each_again m.items trees (byte_items level.padding m.items bytes fits m.are) m.mean
      ∙ ap (map (item_again again))
      (sym (items_are level.padding m.items (length bytes) bytes fits (omega arith) m.are))

  pub list_again : (bytes : List ℕ) (trees : List T) → AreBytes bytes
      → MeansTrees level bytes trees
      → (list_image tlv trees ≡ list_image (item_again again) (items_of bytes))
      × (list_size tlv trees ≡ again_size again bytes)
  list_again bytes trees fits m =
      let same = trees_again bytes trees fits m in
      let items = items_of bytes in (
        list_image-map (λ t. t) tlv trees ∙ ap (list_image (λ t. t)) same
            ∙ sym (list_image-map (λ t. t) (item_again again) items),
        list_size-map (λ t. t) tlv trees ∙ ap (list_size (λ t. t)) same
            ∙ sym (list_size-map (λ t. t) (item_again again) items),
      )

  -- a chunk with such a list, after the bytes before it
  pub listed_is : (typ flags : ℕ) (leading front bytes : List ℕ) (trees : List T) → leading ≡ front
      → AreBytes bytes → MeansTrees level bytes trees
      → listed_tlv typ flags leading tlv trees ≡ listed_again again typ flags front bytes
  listed_is typ flags leading front bytes trees e fits m =
      let l = list_again bytes trees fits m in
      ap (λ (b : List ℕ). listed_tlv typ flags b tlv trees) e
      ∙ ap₂ (λ (v : List (Option ℕ)) (n : ℕ). made v n) l.0 l.1 where
        made : List (Option ℕ) → ℕ → Tlv
        made v n = record {
          first = typ;
          second = flags;
          value = solid front ++ v;
          value_size = length front + n;
        }

-- ---- a loop over them

-- it has gone over some, and what is left begins with the others
pub record GoneOver (again : Again) (list rest : List ℕ) (end : ℕ) : Type 0 where
  pub count : ℕ
  pub more : ℕ
  pub enough : length rest ≤ more
  pub left : drop count (items_of list) ≡ first_items more rest
  pub size : end ≡ list_size (item_again again) (take count (items_of list))

-- and written them again
pub record WrittenAgain (again : Again) (list rest : List ℕ) (end : ℕ)
    (old out : List ℕ) : Type 0 where
  pub over : GoneOver again list rest end
  pub done : out ≡ written (list_image (item_again again) (take over.count (items_of list))) old

at_front : {A : Type 0} (xs : List A) (i : ℕ) (x : A) (more : List A) → drop i xs ≡ x ∷ more
    → (i < length xs) × (x ≡ get_or xs i x) × (drop (i + 1) xs ≡ more)
at_front [] zero x more e = absurd cc
at_front [] (suc i) x more e = absurd cc
at_front (y ∷ ys) zero x more e = (omega arith, cc, cc)
at_front (y ∷ ys) (suc i) x more e =
    let f = at_front ys i x more e in (
      omega (arith, f.0),
      f.1,
      ap (λ (n : ℕ). drop n (y ∷ ys)) (add-one (suc i))
          ∙ ap (λ (n : ℕ). drop n ys) (sym (add-one i)) ∙ f.2,
    )

abbrev pub over_none : (again : Again) (list : List ℕ) → GoneOver again list list 0
over_none again list =
    record { count = 0; more = length list; enough = omega arith; left = refl; size = refl }

pub written_none : (again : Again) (list old : List ℕ) → WrittenAgain again list list 0 old old
written_none again list old = record { over = over_none again list; done = refl }

module _ (again : Again) (list rest : List ℕ) (end : ℕ) (o : GoneOver again list rest end)
    (frame : BeginsWithFrame rest) where
  pub here : (k : ℕ) × (first_items o.more rest ≡ front_item rest ∷ first_items k (frame_rest rest))
      × (length (frame_rest rest) ≤ k)
  here = next_in o.more rest frame o.enough

  pub found : (o.count < length (items_of list)) × (front_item rest ≡ get_or (items_of list) o.count
      (front_item rest))
      × (drop (o.count + 1) (items_of list) ≡ first_items here.0 (frame_rest rest))
  found = at_front (items_of list) o.count (front_item rest) _ (o.left ∙ here.1)

  fits_as : again_size again list < 2 ^ 16
      → IsListEncodable (item_again again) (λ _. Unit {0}) (items_of list)
  fits_as fits = list_encodable (item_again again) (λ _. Unit {0}) (λ _. tt) (items_of list) fits

  -- the next one has room, where the list has
  pub next_room : again_size again list < 2 ^ 16
      → round_up_to_4 end + size_of (item_again again (front_item rest)) ≤ again_size again list
  next_room fits =
      let r = room_for (fits_as fits) found.0 found.1 in
      omega (arith, r.1, r.2, ap round_up_to_4 o.size)

  abbrev pub over_next : (next : ℕ)
      → next ≡ round_up_to_4 end + size_of (item_again again (front_item rest))
      → GoneOver again list (frame_rest rest) next
  over_next next e = record {
    count = o.count + 1;
    more = here.0;
    enough = here.2;
    left = found.2;
    size = total_more (item_again again) (items_of list) found.0 found.1 o.size e;
  }

  pub written_next : (law : (i : Item)
      → length (image_of (item_again again i)) ≡ size_of (item_again again i))
      → (old out : List ℕ)
      → out ≡ written (list_image (item_again again) (take o.count (items_of list))) old
      → (start next : ℕ) → start ≡ round_up_to_4 end
      → next ≡ round_up_to_4 end + size_of (item_again again (front_item rest))
      → WrittenAgain again list (frame_rest rest) next old
      (take start out ++ written (image_of (item_again again (front_item rest))) (drop start out))
  written_next law old out so_far start next from e = record {
    over = over_next next e;
    done = written_more (item_again again) (items_of list) old law found.0 found.1 so_far
        (from ∙ ap round_up_to_4 o.size);
  }

pub over_all : (again : Again) (list rest : List ℕ) (end : ℕ) (o : GoneOver again list rest end)
    → ¬ BeginsWithFrame rest → take o.count (items_of list) ≡ items_of list
over_all again list rest end o none =
    take_all o.count (items_of list)
    (omega (
      arith,
      length-drop o.count (items_of list),
      ap length (o.left ∙ end_in o.more rest none),
    ))
