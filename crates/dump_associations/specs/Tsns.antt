-- How TSNs of an end follow one another (RFC 9260 sections 2.6 and 3.3.1): of the last 2,048 up to
-- the greatest one, those are seen that are marked, and so are all before them.
use Rattle.std.specs.Prelude.{◌≡◌, ◌+◌, ◌-◌, ◌/◌, ◌%◌, ◌^◌, ◌<◌, ◌≤◌, ◌⊎◌, ◌↔◌, ℕ, nat_lt, Bool, List, Option, Some, None, slice_index, if◌then◌else◌}
use Rattle.std.specs.Option.{option_or}
use Rattle.std.specs.Int.{bit_at}
use Rattle.dump_capture.specs.Number.{capped, one_more}
use Rattle.dump_packet.specs.Serial.{ahead, IsAfter}
use Rattle.dump_associations.specs.declared.associations.membership.Sequence.{Sequence}
use Rattle.dump_packet.specs.declared.packet_number.PacketNumber.{PacketNumber}
use Rattle.dump_associations.specs.declared.associations.tsns.Span.{Span}
use Rattle.dump_associations.specs.declared.associations.tsns.Step.{Step}
use Rattle.dump_associations.specs.declared.associations.tsns.Step.TheVariants.{Ahead, Late, Repeated}
use Rattle.dump_associations.specs.declared.associations.tsns.Tsns.{Tsns}

-- a TSN's bit is set, in the word that holds it
abbrev pub IsMarked : List ℕ → ℕ → Type 0
IsMarked words tsn = bit_at (slice_index words (tsn / 64 % 32)) (tsn % 64) ≡ 1

-- TSNs 2,048 apart have one bit
abbrev pub HaveOneBit : ℕ → ℕ → Type 0
HaveOneBit one other = one % 2048 ≡ other % 2048

-- it comes 2,048 or more before the last one, or is marked
abbrev pub WasSeen : Span → List ℕ → ℕ → Type 0
WasSeen span words tsn = (2048 ≤ ahead tsn span.last) ⊎ IsMarked words tsn

-- the first one is ahead, and so is one after the last one: those between them are missing
abbrev pub Follows : Option Span → List ℕ → ℕ → Step → Type 0
Follows None words tsn (Ahead missing) = missing ≡ 0
Follows None words tsn Late = ⊥
Follows None words tsn Repeated = ⊥
Follows (Some span) words tsn (Ahead missing) =
    IsAfter span.last tsn × (missing + 1 ≡ ahead span.last tsn)
Follows (Some span) words tsn Late = ¬ (IsAfter span.last tsn) × ¬ (WasSeen span words tsn)
Follows (Some span) words tsn Repeated = ¬ (IsAfter span.last tsn) × WasSeen span words tsn

-- ---- what is noted of a TSN

-- it is before the first TSN of the sequence
abbrev pub comes_first : Span → ℕ → Bool
comes_first span tsn = nat_lt (ahead span.first span.last) (ahead tsn span.last)

-- The sequence begins with the first TSN, and ends with the last one.
abbrev pub span_with : Option Span → ℕ → Step → Span
span_with None tsn step = record { first = tsn; last = tsn }
span_with (Some span) tsn (Ahead missing) = record { first = span.first; last = tsn }
span_with (Some span) tsn Late =
    record { first = if comes_first span tsn then tsn else span.first; last = span.last }
span_with (Some span) tsn Repeated = span

-- Of the 2,048 TSNs up to the last one, this one is marked, and those are that were before and of
-- the 2,048 up to the last one then; no other is.
abbrev pub WasMarked : Option Span → List ℕ → ℕ → Type 0
WasMarked None words tsn = IsMarked words tsn
WasMarked (Some span) words tsn = (ahead tsn span.last < 2048) × IsMarked words tsn

abbrev pub MarksOne : Option Span → List ℕ → ℕ → ℕ → List ℕ → Type 0
MarksOne span before new last after = (tsn : ℕ) → tsn < 2 ^ 32 → ahead tsn last < 2048
    → IsMarked after tsn ↔ ((tsn ≡ new) ⊎ WasMarked span before tsn)

-- Those between the last one and one ahead are missing, and so are those between the first one and
-- one before it; another late one no longer is.
abbrev pub missing_with : Option Span → ℕ → Step → ℕ → ℕ
missing_with None tsn step before = before
missing_with (Some span) tsn (Ahead missing) before = capped (before + missing)
missing_with (Some span) tsn Late before =
    if comes_first span tsn then capped (before + (ahead tsn span.first - 1)) else before - 1
missing_with (Some span) tsn Repeated before = before

abbrev pub first_tsn : Option PacketNumber → ℕ → ℕ → ℕ
first_tsn (Some _) before tsn = before
first_tsn None before tsn = tsn

-- none was repeated
abbrev pub IsAsRepeated : Tsns → Tsns → Type 0
IsAsRepeated before after =
    (after.repeated ≡ before.repeated) × (after.first_repeated ≡ before.first_repeated)
    × (after.first_repeated_tsn ≡ before.first_repeated_tsn)

-- one more was repeated, and its packet is the first if none was before
abbrev pub RepeatsOne : Tsns → ℕ → PacketNumber → Step → Tsns → Type 0
RepeatsOne before tsn number Repeated after =
    (after.repeated ≡ one_more before.repeated)
    × (after.first_repeated ≡ option_or before.first_repeated (Some number))
    × (after.first_repeated_tsn ≡ first_tsn before.first_repeated before.first_repeated_tsn tsn)
RepeatsOne before tsn number (Ahead _) after = IsAsRepeated before after
RepeatsOne before tsn number Late after = IsAsRepeated before after

-- what a packet's TSNs come to, with one more
abbrev pub with_step : Sequence → Step → Sequence
with_step s (Ahead missing) = record s { missing = capped (s.missing + missing) }
with_step s Late = record s { late = one_more s.late }
with_step s Repeated = record s { repeated = one_more s.repeated }
