-- How many packets of captures broke each rule.
use Rattle.std.specs.Prelude.{◌≡◌, ◌<◌, ℕ, Bool, false, nat_lt, if◌then◌else◌, List, length, get_or, slice_index}
use Rattle.std.specs.List.{list_any}
use Rattle.dump_capture.specs.Number.{one_more}
use Rattle.dcsctp_borrowed.specs.Part.{Part}
use Rattle.dcsctp_receive.specs.{Rule.{broken}, declared.rule.Known.{Known}}

-- one more of each rule that is broken
abbrev pub CountsBroken : (ℕ → Bool) → List ℕ → List ℕ → Type 0
CountsBroken is_broken before after =
    (i : ℕ) → i < length before
    → slice_index after i
    ≡ (if is_broken i then one_more (slice_index before i) else slice_index before i)

-- a packet broke a rule
abbrev pub is_warned : List ℕ → Bool
is_warned counts = list_any (λ count. nat_lt 0 count) counts

-- The rules that a packet breaks are counted, where this is known of its association.
abbrev pub CountsRules : Part → ℕ → Known → List ℕ → List ℕ → Type 0
CountsRules p word known before after =
    CountsBroken (λ i. get_or (broken p word known) i false) before after
