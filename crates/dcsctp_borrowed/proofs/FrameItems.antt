-- The items that are found one after the other in whole bytes are those of the grammar.
use Rattle.std.proofs.Common.{◌≡◌, ◌≢◌, ℕ, ◌+◌, ◌-◌, true, min, List, [], ◌∷◌, length, get_or, take, drop, refl, sym, ap, ap₂, subst, ◌∙◌, arith, length-drop}
use Rattle.std.proofs.lemmas.List.{drop-take, get_or-drop}
use Rattle.std.proofs.lemmas.Bool.Decides.{nat_tests}
use Rattle.dcsctp_tlv.specs.Frame as frame
use Rattle.dcsctp_tlv.{specs.Number.{AreBytes}, proofs.Items.{front_item, front_length}, proofs.Checks.{first_item as first_frame}}
use Rattle.dcsctp_borrowed.specs.Part.{Item, AreItems, none, next, begins_with_item, first_item, after_item}
use Rattle.dcsctp_borrowed.specs.Grammar.{whole, item_of_frame, items_of_frames}

pub begins : (bytes : List ℕ) → frame.BeginsWithFrame bytes → begins_with_item (whole bytes) ≡ true
begins bytes f =
    let header = f.header in
    let low = f.low in
    let high = f.high in
    grind (arith, nat_tests)

abbrev item_with : List ℕ → List ℕ → ℕ → Item
item_with bytes value size = record {
  first = get_or bytes 0 0;
  second = get_or bytes 1 0;
  value = record { bytes = value; size = size };
}

pub first_is : (bytes : List ℕ) → frame.BeginsWithFrame bytes
    → first_item (whole bytes) ≡ item_of_frame (front_item bytes)
first_is bytes f =
    let len = frame.frame_length bytes in
    let back : 4 + (len - 4) ≡ len = omega (arith, f.low) in
    let value : drop 4 (take len bytes) ≡ frame.frame_value bytes =
    ap (λ n. drop 4 (take n bytes)) (sym back) ∙ drop-take 4 (len - 4) bytes in
    let size : min len (length bytes) - 4 ≡ length (frame.frame_value bytes) =
    omega (arith, front_length bytes f, f.high) in
    ap₂ (λ (v : List ℕ) (n : ℕ). item_with bytes v n) value size

pub after_is : (bytes : List ℕ) → after_item (whole bytes) ≡ whole (frame.frame_rest bytes)
after_is bytes =
    ap (λ (n : ℕ). record { bytes = frame.frame_rest bytes; size = n })
    (sym (length-drop (frame.round_up_to_4 (frame.frame_length bytes)) bytes))

pub bytes_after : (n : ℕ) (bytes : List ℕ) → AreBytes bytes → AreBytes (drop n bytes)
bytes_after n bytes fits = λ i. rw (get_or-drop n bytes i 0) (fits (n + i))

pub frame_items : (rule : frame.PaddingRule) (items : List frame.Item) (bytes : List ℕ) → AreBytes bytes
    → frame.AreItems rule bytes items → AreItems (whole bytes) (items_of_frames items)
frame_items rule [] bytes fits are = none _ _ (rw are.split refl) refl
frame_items rule (i ∷ is) bytes fits are =
    let some : bytes ≢ [] = λ e. omega (arith, ap length (sym e ∙ are.split)) in
    let f = first_frame rule bytes (i ∷ is) fits some are in
    let split = f.split in
    let others : f.others ≡ is = cc split in
    let first : front_item bytes ≡ i = cc split in
    next _ _ (items_of_frames is) (begins bytes f.frame)
    (subst (λ p. AreItems p (items_of_frames is)) (sym (after_is bytes))
    (frame_items rule is (frame.frame_rest bytes) (bytes_after _ bytes fits)
    (subst (frame.AreItems rule (frame.frame_rest bytes)) others f.are)))
    (ap (λ x. x ∷ items_of_frames is) (sym (first_is bytes f.frame ∙ ap item_of_frame first)))
