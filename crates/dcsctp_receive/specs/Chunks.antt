-- The chunks of a packet that may hold anything (RFC 9260 section 3), and what the rules of chapter
-- 8 ask of them.
use Rattle.std.specs.Prelude.{◌==◌, ◌&&◌, Bool, false, ℕ, zero, suc, nat_lt, if◌then◌else◌, List, [], ◌∷◌, Option, Some, None, find, length, drop}
use Rattle.std.specs.List.{list_any}
use Rattle.std.specs.{Option.{is_some}, Str.{bytes_eq}}
use Rattle.dcsctp_tlv.specs.Number.{number32}
use Rattle.dcsctp_chunk.specs.Flags.{is_set}
use Rattle.dcsctp_borrowed.specs.{Grammar.{whole}, Part.{Part, Item, begins_with_item, item_of, first_item, after_item, after}}
use Rattle.dcsctp_receive.specs.declared.items.Wanted.{Wanted}
use Rattle.dcsctp_receive.specs.declared.items.Wanted.TheVariants as wanted

-- ---- the items that lie somewhere

-- the first n items, each after the other's padding, up to the first length that is impossible
abbrev pub items_within : ℕ → Part → List Item
items_within zero p = []
items_within (suc n) p =
    if begins_with_item p then first_item p ∷ items_within n (after_item p) else []

-- all of them, each of which has a byte
unfoldable pub items_of : Part → List Item
items_of p = items_within (suc (length p.bytes)) p

-- ---- a packet

-- it has a common header (section 3.1)
abbrev pub has_header : List ℕ → Bool
has_header packet = nat_lt 11 (length packet)

-- its Verification Tag
abbrev pub tag_of : List ℕ → ℕ
tag_of packet = number32 (drop 4 packet)

-- where its chunks lie, after the common header
abbrev pub chunk_part : Part → Part
chunk_part packet = after 12 packet

abbrev pub chunks_of : List ℕ → List Item
chunks_of packet = items_of (chunk_part (whole packet))

-- ---- chunks

-- a chunk of this type; a parameter or an error cause of this type, which is below 256
abbrev pub is_of_type : ℕ → Item → Bool
is_of_type typ c = c.first == typ

abbrev pub is_numbered : ℕ → Item → Bool
is_numbered typ p = p.first == 0 && p.second == typ

-- the same type, and the same value
abbrev pub is_same : Item → Item → Bool
is_same p q = q.first == p.first && q.second == p.second && bytes_eq q.value.bytes p.value.bytes

abbrev pub is_wanted : Wanted → Item → Bool
is_wanted (wanted.Chunk typ) i = is_of_type typ i
is_wanted (wanted.Numbered typ) i = is_numbered typ i
is_wanted (wanted.Same p) i = is_same (item_of p) i

-- The packet contains a chunk of this type.
abbrev pub contains : ℕ → List Item → Bool
contains typ chunks = list_any (is_of_type typ) chunks

-- The first chunk has this type.
abbrev pub begins_with : ℕ → List Item → Bool
begins_with typ [] = false
begins_with typ (c ∷ cs) = is_of_type typ c

-- Where COOKIE ECHO is the first chunk: of the packet, or behind one AUTH, which authenticates it: "an
-- AUTH chunk as a first chunk, a COOKIE-ECHO chunk as the second chunk, and possibly more chunks
-- after them" (RFC 4895 section 6.3).
abbrev pub after_auth : List Item → List Item
after_auth [] = []
after_auth (c ∷ cs) = if is_of_type 15 c then cs else c ∷ cs

-- the only chunk, if it has this type
abbrev pub only : ℕ → List Item → Option Item
only typ [] = None
only typ (c ∷ []) = if is_of_type typ c then Some c else None
only typ (c ∷ d ∷ cs) = None

-- A chunk of this type is the only one.
abbrev pub is_only : ℕ → List Item → Bool
is_only typ chunks = is_some (only typ chunks)

-- the T bit, the lowest flag (sections 3.3.7 and 3.3.13)
abbrev pub t_bit_of : Option Item → Bool
t_bit_of None = false
t_bit_of (Some c) = is_set c.second 0

-- that of the first chunk of this type
abbrev pub t_bit : ℕ → List Item → Bool
t_bit typ chunks = t_bit_of (find (is_of_type typ) chunks)
