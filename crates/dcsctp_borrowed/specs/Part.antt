-- Bytes of a packet, of which the last ones may not have been captured, and the items in them:
-- chunks, parameters and error causes (RFC 9260 sections 3.2, 3.2.1 and 3.3.10).
use Rattle.std.specs.Prelude.{◌≡◌, ◌-◌, ◌&&◌, Bool, true, false, ℕ, nat_le, min, List, [], ◌∷◌, length, take, drop, slice_index, Option, Some, None}
use Rattle.dcsctp_tlv.specs.Frame.{round_up_to_4}
use Rattle.dcsctp_tlv.specs.Number.{number16}
use Rattle.dcsctp_borrowed.specs.declared.part.Part as code
use Rattle.dcsctp_borrowed.specs.declared.part.Item as code_item

-- `size` bytes, of which these were captured, the first ones
pub record Part : Type 0 where
  pub bytes : List ℕ
  pub size : ℕ

abbrev pub front : ℕ → Part → Part
front n p = record { bytes = take n p.bytes; size = min n p.size }

abbrev pub after : ℕ → Part → Part
after n p = record { bytes = drop n p.bytes; size = p.size - n }

-- ---- items

pub record Item : Type 0 where
  pub first : ℕ
  pub second : ℕ
  pub value : Part

-- the length field of the item at the front
abbrev pub length_field : Part → ℕ
length_field p = number16 (drop 2 p.bytes)

-- The item's header was captured, and its length is that of the header at least, and no more than
-- is left.
abbrev pub begins_with_item : Part → Bool
begins_with_item p =
    nat_le 4 (length p.bytes) && nat_le 4 (length_field p) && nat_le (length_field p) p.size

abbrev pub first_item : Part → Item
first_item p = record {
  first = slice_index p.bytes 0;
  second = slice_index p.bytes 1;
  value = after 4 (front (length_field p) p);
}

-- what follows the item and its padding
abbrev pub after_item : Part → Part
after_item p = after (round_up_to_4 (length_field p)) p

-- The items that lie here one after the other are these. They end where a header is missing or a
-- length is impossible, unlike those of dcsctp_tlv's `AreItems`, which are all the bytes.
pub data AreItems : Part → List Item → Type 0 where
  none : (p : Part) (items : List Item) → begins_with_item p ≡ false → items ≡ [] → AreItems p items
  next : (p : Part) (items others : List Item) → begins_with_item p ≡ true
      → AreItems (after_item p) others → items ≡ first_item p ∷ others → AreItems p items

-- ---- as they lie in memory

abbrev pub part_of : code.Part → Part
part_of p = record { bytes = p.bytes.now; size = p.size }

abbrev pub item_of : code_item.Item → Item
item_of i = record { first = i.first; second = i.second; value = part_of i.value }

-- the item at the front, if there is one
abbrev pub IsFirst : Part → Option code_item.Item → Type 0
IsFirst p (Some i) =
    (begins_with_item p ≡ true) × (item_of i ≡ first_item p)
    × (i.padded ≡ round_up_to_4 (length_field p))
IsFirst p None = begins_with_item p ≡ false

-- the next item, and what is left after it
abbrev pub GivesItem : Part → Option code_item.Item → Part → Type 0
GivesItem p (Some i) left =
    (begins_with_item p ≡ true) × (item_of i ≡ first_item p) × (left ≡ after_item p)
GivesItem p None left = (begins_with_item p ≡ false) × (left ≡ p)
