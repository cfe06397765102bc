-- A level whose items have a type in their first two bytes: parameters (RFC 9260 section 3.2.1) and
-- error causes (section 3.3.10).
use Rattle.std.specs.{Prelude.{ℕ, Bool, List, [], ◌∷◌}, Int.{w16, from_be_bytes}}
use Rattle.dcsctp_tlv.specs.{Frame.{Item, zero_padding}, Level.{Row, Level, plain, map_ok}, Table.{Named, row_of}}
use Rattle.dcsctp_tlv.specs.UnknownParameter as unknown

-- the type of an item
abbrev pub item_type : Item → ℕ
item_type i = from_be_bytes w16 (i.first ∷ i.second ∷ [])

-- What the value of a type means, and its faults: by the table, or kept as it is where the type
-- isn't named.
abbrev pub typed_row : {T : Type 0} → List (Named T) → (unknown.Tree → T) → ℕ → Row T
typed_row table tree typ = row_of table typ (plain (λ value. map_ok tree (unknown.read typ value)))

-- lists of such items, for a strict reader or a lenient one
abbrev pub typed_level : {T : Type 0} → (ℕ → Row T) → Bool → Level T
typed_level row strict = record {
  row = λ first second. row (from_be_bytes w16 (first ∷ second ∷ []));
  padding = zero_padding strict;
}
