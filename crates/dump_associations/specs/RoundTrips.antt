-- Round trips: the TSNs that are waited for, and what an acknowledgement adds.
use Rattle.std.specs.Prelude.{◌≡◌, ◌-◌, ◌≤◌, ◌/◌, ◌++◌, ◌∷◌, ℕ, true, false, List, [], Option, Some, None, All}
use Rattle.dump_capture.specs.Number.{one_more}
use Rattle.dump_packet.specs.Acknowledged.{IsAcknowledgedBy}
use Rattle.dump_packet.specs.Buckets.{CountsOneIn}
use Rattle.dump_packet.specs.Delays.{least_with, IsGreatest}
use Rattle.dump_packet.specs.Serial.{IsAfter}
use Rattle.dump_packet.specs.declared.acknowledgement.Acknowledgement.{Acknowledgement}
use Rattle.dump_packet.specs.declared.delays.Delays.{Delays}
use Rattle.dump_packet.specs.declared.packet_number.PacketNumber.{PacketNumber}
use Rattle.dump_associations.specs.declared.associations.round_trips.Sent.{Sent}

-- ---- what is waited for

abbrev pub IsFree : Sent → Type 0
IsFree sent = sent.is_waiting ≡ false

-- The first place that is free waits for this TSN, which was sent then; all else is as it was.
abbrev pub Waits : ℕ → ℕ → List Sent → List Sent → Type 0
Waits tsn nanoseconds before after =
    (earlier : List Sent) × (free : Sent) × (later : List Sent)
    × (before ≡ earlier ++ free ∷ later) × All (λ sent. ¬ (IsFree sent)) earlier × IsFree free
    × (after
    ≡ earlier
    ++ record { tsn = tsn; is_waiting = true; nanoseconds = nanoseconds } ∷ later)

-- the greatest Cumulative TSN Ack, if there was one, isn't before this TSN
abbrev pub IsPassed : Option ℕ → ℕ → Type 0
IsPassed (Some passed) tsn = ¬ (IsAfter passed tsn)
IsPassed None tsn = ⊥

-- It stays the greatest, or this one is.
abbrev pub PassesTo : Option ℕ → ℕ → Option ℕ → Type 0
PassesTo before cumulative after =
    (IsPassed before cumulative → after ≡ before)
    × (¬ (IsPassed before cumulative) → after ≡ Some cumulative)

-- ---- an acknowledgement

-- it was waited for, is acknowledged, and wasn't sent later than that
pub record IsSample (by : Acknowledgement) (nanoseconds : ℕ) (sent : Sent) : Type 0 where
  pub waiting : sent.is_waiting ≡ true
  pub acknowledged : IsAcknowledgedBy by sent.tsn
  pub earlier : sent.nanoseconds ≤ nanoseconds

-- one round trip was counted, of a TSN that this packet acknowledges
pub record AddsOne (before : Delays) (nanoseconds tsn : ℕ) (packet : PacketNumber) (new : Delays)
    : Type 0 where
  pub count : new.count ≡ one_more before.count
  pub least : new.least ≡ least_with before nanoseconds
  pub greatest : IsGreatest before nanoseconds tsn packet new
  pub bucket : CountsOneIn (nanoseconds / 1024) before.buckets new.buckets

-- Of each sample the time from when it was sent to the acknowledgement was counted once, in order.
pub data AddsEach (by : Acknowledgement) (nanoseconds : ℕ) (packet : PacketNumber)
    : List Sent → Delays → Delays → Type 0 where
  none : (delays : Delays) → AddsEach by nanoseconds packet [] delays delays
  sample : (sent : Sent) (rest : List Sent) (before between after : Delays)
      → IsSample by nanoseconds sent
      → AddsOne before (nanoseconds - sent.nanoseconds) sent.tsn packet between
      → AddsEach by nanoseconds packet rest between after
      → AddsEach by nanoseconds packet (sent ∷ rest) before after
  other : (sent : Sent) (rest : List Sent) (before after : Delays)
      → ¬ (IsSample by nanoseconds sent) → AddsEach by nanoseconds packet rest before after
      → AddsEach by nanoseconds packet (sent ∷ rest) before after
