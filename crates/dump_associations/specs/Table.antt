-- How many packets the table of associations has counted.
use Rattle.std.specs.Prelude.{◌≡◌, ◌+◌, ◌++◌, ◌∷◌, ℕ, true, List, [], length, slice_get, slice_set, Box, Option, Some, None}
use Rattle.std.specs.List.{sum_by}
use Rattle.std.specs.declared.alloc.Global.{Global}
use Rattle.dump_capture.specs.Number.{one_more}
use Rattle.dump_associations.specs.declared.associations.association.Association.{Association}
use Rattle.dump_associations.specs.declared.associations.membership.Membership.{Membership}

-- those that the two ends of an association sent
abbrev pub packets_of : Association → ℕ
packets_of a = a.first.counts.packets + a.second.counts.packets

abbrev pub packets_in : List (Box Association Global) → ℕ
packets_in table = sum_by (λ a. packets_of a.value) table

-- those of the associations in the table, and those of none
abbrev pub counted : List (Box Association Global) → ℕ → ℕ
counted table unknown = packets_in table + unknown

-- those of the association that left the table, if one did
abbrev pub packets_left : Option (Box Association Global) → ℕ
packets_left (Some a) = packets_of a.value
packets_left None = 0

-- a packet is unknown if it is of no association, and else isn't
abbrev pub CountsUnknown : Option Membership → ℕ → ℕ → Type 0
CountsUnknown (Some _) before after = after ≡ before
CountsUnknown None before after = after ≡ one_more before

-- ---- an association takes its place

-- it is put at the end, and none leaves
abbrev pub TakesEnd : List (Box Association Global) → Box Association Global → ℕ
    → Option (Box Association Global) → List (Box Association Global) → Type 0
TakesEnd before new slot left after =
    (slot ≡ length before) × (left ≡ None) × (after ≡ before ++ new ∷ [])

-- it is put into the slot of another, which leaves and says so
abbrev pub TakesSlot : ℕ → List (Box Association Global) → Box Association Global
    → Option (Box Association Global) → List (Box Association Global) → Type 0
TakesSlot slot before new left after =
    (old : Box Association Global) × (slice_get before slot ≡ Some old)
    × (left ≡ Some (record old { value = record (old.value) { has_left = true } }))
    × (after ≡ slice_set before slot new)
