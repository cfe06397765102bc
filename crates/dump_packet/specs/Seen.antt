-- Which chunks of a packet are looked at: of a refused one those up to its fault.
use Rattle.std.specs.Prelude.{◌≡◌, ◌<◌, ◌≤◌, ◌-◌, ◌&&◌, Bool, true, false, ℕ, zero, suc, nat_le, nat_lt, if◌then◌else◌, List, [], ◌∷◌, length, slice_index, Option, Some, None}
use Rattle.dcsctp_tlv.specs.Frame.{round_up_to_4}
use Rattle.dcsctp_borrowed.specs.Part.{Part, Item, AreItems, begins_with_item, first_item, after_item, length_field, after}
use Rattle.dcsctp_receive.specs.Chunks.{chunk_part, items_of}

abbrev pub has_header : Part → Bool
has_header p = nat_le 4 (length p.bytes)

-- The chunk whose header lies here. Where its length is less than that of the header, or more than
-- is left, its value is all that is left.
abbrev pub front_chunk : Part → Item
front_chunk p =
    if begins_with_item p then first_item p else
    record { first = slice_index p.bytes 0; second = slice_index p.bytes 1; value = after 4 p }

-- A chunk lies here with its padding, and the next one begins at most `ahead` bytes from here.
abbrev pub goes_on : ℕ → Part → Bool
goes_on ahead p = begins_with_item p && nat_le (round_up_to_4 (length_field p)) ahead

-- The chunks that lie here one after the other, and begin at most `ahead` bytes from here, are
-- these. The last one is looked at even where its length is impossible.
pub data AreWithin : ℕ → Part → List Item → Type 0 where
  none : (ahead : ℕ) (p : Part) (items : List Item) → has_header p ≡ false → items ≡ []
      → AreWithin ahead p items
  last : (ahead : ℕ) (p : Part) (items : List Item) → has_header p ≡ true
      → goes_on ahead p ≡ false → items ≡ front_chunk p ∷ [] → AreWithin ahead p items
  next : (ahead : ℕ) (p : Part) (items others : List Item) → goes_on ahead p ≡ true
      → AreWithin (ahead - round_up_to_4 (length_field p)) (after_item p) others
      → items ≡ front_chunk p ∷ others → AreWithin ahead p items

-- The chunks of a packet that are looked at: of one without a fault all of them; of one whose first
-- fault lies at an offset those that begin there or before.
abbrev pub AreSeen : Option ℕ → Part → List Item → Type 0
AreSeen None packet chunks = AreItems (chunk_part packet) chunks
AreSeen (Some fault) packet chunks =
    (fault < 12 → chunks ≡ [])
    × (12 ≤ fault → AreWithin (fault - 12) (chunk_part packet) chunks)

-- the same, as functions: the first n chunks, all of them, and those of a packet
abbrev pub chunks_within : ℕ → ℕ → Part → List Item
chunks_within zero ahead p = []
chunks_within (suc n) ahead p =
    if has_header p then front_chunk p ∷ (
    if goes_on ahead p then
    chunks_within n (ahead - round_up_to_4 (length_field p)) (after_item p) else
    []
    ) else
    []

unfoldable pub chunks_ahead : ℕ → Part → List Item
chunks_ahead ahead p = chunks_within (suc (length p.bytes)) ahead p

abbrev pub chunks_seen : Option ℕ → Part → List Item
chunks_seen None packet = items_of (chunk_part packet)
chunks_seen (Some fault) packet =
    if nat_lt fault 12 then [] else chunks_ahead (fault - 12) (chunk_part packet)
