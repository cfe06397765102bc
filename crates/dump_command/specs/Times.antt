-- Times as nanoseconds since 1970-01-01 00:00:00 UTC.
use Rattle.std.specs.Prelude.{◌≡◌, ℕ, ℤ, pos, negsuc, ◌+◌, ◌*◌, ◌/◌, ◌-◌, ◌^◌, nat_lt, nat_le, if◌then◌else◌, Option, Some, None}
use Rattle.dump_capture.specs.declared.event.Time.{Time}
use Rattle.dump_capture.specs.declared.event.Time.TheVariants.{Unknown, Stamp, Ticks, OfDay}
use Rattle.dump_capture.specs.declared.line.Direction.{Direction}
use Rattle.dump_capture.specs.declared.pcap.Resolution.{Resolution}
use Rattle.dump_capture.specs.declared.pcap.Resolution.TheVariants.{Microseconds, Nanoseconds}

-- a number that 64 bits can hold
abbrev pub fitting : ℕ → Option ℕ
fitting n = if nat_lt n (2 ^ 64) then Some n else None

-- ---- pcap: seconds, and a fraction in this unit

abbrev pub unit_of : Resolution → ℕ
unit_of Microseconds = 1000
unit_of Nanoseconds = 1

-- ---- pcapng

-- How many units a second has (if_tsresol, draft-ietf-opsawg-pcapng section 4.2): a power of ten,
-- or one of two where the first bit is set.
abbrev pub units : ℕ → ℕ
units resolution = if nat_lt resolution 128 then 10 ^ resolution else 2 ^ (resolution - 128)

-- a number of seconds later, or earlier (if_tsoffset)
abbrev pub later : ℕ → ℤ → Option ℕ
later n (pos seconds) = fitting (n + seconds * 1000000000)
later n (negsuc seconds) =
    let by = (seconds + 1) * 1000000000 in if nat_le by n then Some (n - by) else None

abbrev pub later_if : Option ℕ → ℤ → Option ℕ
later_if (Some n) seconds = later n seconds
later_if None seconds = None

-- What is read of a time. Of a log's times nothing is said.
abbrev pub IsRead : Time → Option ℕ → Type 0
IsRead Unknown read = read ≡ None
IsRead (Stamp seconds fraction resolution) read =
    read ≡ Some (seconds * 1000000000 + fraction * unit_of resolution)
IsRead (Ticks ticks resolution offset) read =
    read ≡ later_if (fitting (ticks * 1000000000 / units resolution)) offset
IsRead (OfDay time direction transport stamp) read = Unit {0}

-- ---- a log

-- which way a packet went: a log says it, and nothing else
abbrev pub direction_in : Time → Option Direction
direction_in (OfDay time direction transport stamp) = Some direction
direction_in time = None
