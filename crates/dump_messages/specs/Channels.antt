-- What is counted of the messages of a channel, and of all channels of an association.
use Rattle.std.specs.Prelude.{◌≡◌, ◌+◌, ◌<◌, ◌⊎◌, ◌++◌, ◌∷◌, ◌||◌, ◌&&◌, ◌==◌, ℕ, false, not, nat_lt, if◌then◌else◌, List, [], slice_get, slice_set, Option, Some, None, IsSome}
use Rattle.std.specs.List.{sum_by}
use Rattle.dump_capture.specs.Number.{capped, one_more}
use Rattle.dump_packet.specs.Firsts.{IsFirst}
use Rattle.dump_packet.specs.declared.side.Side.{Side}
use Rattle.dump_packet.specs.declared.side.Side.TheVariants.{First, Second}
use Rattle.dump_messages.specs.declared.channels.channel.Channel.{Channel}
use Rattle.dump_messages.specs.declared.channels.channel.Reset.{Reset}
use Rattle.dump_messages.specs.declared.channels.data_channel.Opened.{Opened}
use Rattle.dump_packet.specs.declared.packet_number.PacketNumber.{PacketNumber}
use Rattle.dump_messages.specs.declared.channels.channel.Tally.{Tally}
use Rattle.dump_messages.specs.declared.channels.channel.Traffic.{Traffic}
use Rattle.dump_messages.specs.declared.messages.message.Message.{Message}

-- an end that sent no message
abbrev pub nothing_sent : Traffic → Type 0
nothing_sent t = (t.messages ≡ 0) × (t.bytes ≡ 0)

-- one message of an end was counted, with its bytes
abbrev pub CountsMessage : Traffic → Message → Traffic → Type 0
CountsMessage before m after =
    (after.messages ≡ one_more before.messages)
    × (after.bytes ≡ capped (before.bytes + m.size))
    × (after.repeated ≡ capped (before.repeated + m.repeated))

-- It was counted of the end that sent it, and of that one alone.
abbrev pub AddsFrom : Side → Tally → Message → Tally → Type 0
AddsFrom First before m after =
    CountsMessage before.first m after.first × (after.second ≡ before.second)
AddsFrom Second before m after =
    CountsMessage before.second m after.second × (after.first ≡ before.first)

abbrev pub Adds : Tally → Message → Tally → Type 0
Adds before m after = AddsFrom m.sender before m after

-- ---- of all channels in a list

abbrev pub messages_of : Tally → ℕ
messages_of t = t.first.messages + t.second.messages

abbrev pub bytes_of : Tally → ℕ
bytes_of t = t.first.bytes + t.second.bytes

abbrev pub messages_on : List Channel → ℕ
messages_on channels = sum_by (λ c. messages_of c.tally) channels

abbrev pub bytes_on : List Channel → ℕ
bytes_on channels = sum_by (λ c. bytes_of c.tally) channels

-- These have as many messages and bytes as those.
abbrev pub AreAlike : List Channel → List Channel → Type 0
AreAlike before after =
    (messages_on after ≡ messages_on before) × (bytes_on after ≡ bytes_on before)

-- those of the channels that are kept, and those of others
abbrev pub messages_seen : List Channel → Tally → ℕ
messages_seen channels others = messages_on channels + messages_of others

abbrev pub bytes_seen : List Channel → Tally → ℕ
bytes_seen channels others = bytes_on channels + bytes_of others

-- ---- which channel a message is of

-- a packet of an earlier file, or an earlier one of the same file
abbrev pub ComesBefore : PacketNumber → PacketNumber → Type 0
ComesBefore packet other =
    (packet.file < other.file) ⊎ ((packet.file ≡ other.file) × (packet.number < other.number))

-- there is such a packet, and this one is it or comes after it
abbrev pub IsFrom : Option PacketNumber → PacketNumber → Type 0
IsFrom None packet = ⊥
IsFrom (Some first) packet = ¬ (ComesBefore packet first)

-- the response, if it says success: "Nothing to do" or "Performed" (RFC 6525 section 4.4)
abbrev pub succeeded_at : Option (ℕ × PacketNumber) → Option PacketNumber
succeeded_at None = None
succeeded_at (Some answer) = if nat_lt answer.0 2 then Some answer.1 else None

-- The response to a request: the first one that isn't "In progress", which ends it (RFC 6525
-- section 5.2.7), or else the first one. This is the one so far, and then a further one.
abbrev pub last_answer : Option (ℕ × PacketNumber) → ℕ → PacketNumber → Option (ℕ × PacketNumber)
last_answer None code packet = Some (code, packet)
last_answer (Some first) code packet =
    if (first.0 == 6) && not (code == 6) then Some (code, packet) else Some first

abbrev pub reset_of : Side → Channel → Option Reset
reset_of First c = c.first_reset
reset_of Second c = c.second_reset

abbrev pub reset_at : Option Reset → Option PacketNumber
reset_at None = None
reset_at (Some r) = succeeded_at r.result

-- What an end sends is over from the reset of its stream on, and from where that is opened anew.
abbrev pub IsOver : Channel → Side → PacketNumber → Type 0
IsOver c side packet = IsFrom (reset_at (reset_of side c)) packet ⊎ IsFrom c.replaced packet

-- A message is of a channel that has its stream, and whose opening was seen or that has its
-- payload protocol, if the channel isn't over.
abbrev pub IsOf : Message → Channel → Type 0
IsOf m c =
    (c.stream ≡ m.key.stream) × (IsSome c.opened ⊎ (c.ppid ≡ m.ppid))
    × ¬ (IsOver c m.sender m.sent.packet)

-- ---- a message is counted of one channel

abbrev pub IsNew : ℕ → Option ℕ → Option Opened → Channel → Type 0
IsNew stream ppid opened c =
    (c.stream ≡ stream) × (c.ppid ≡ ppid) × (c.opened ≡ opened) × (c.first_reset ≡ None)
    × (c.second_reset ≡ None) × (c.replaced ≡ None) × (c.passes ≡ false)
    × nothing_sent c.tally.first × nothing_sent c.tally.second

-- The channel has it; nothing else of it changes.
abbrev pub CountsOn : Message → Channel → Channel → Type 0
CountsOn m before after =
    Adds before.tally m after.tally
    × (after ≡ record before { passes = before.passes || m.passes; tally = after.tally })

-- the channel in this place has it, and all others are as they were
abbrev pub CountsAt : Message → ℕ → List Channel → List Channel → Type 0
CountsAt m place before after = (c with_it : Channel) × (slice_get before place ≡ Some c)
    × CountsOn m c with_it × (after ≡ slice_set before place with_it)

-- It is of one of them: the first one that it is of has it.
abbrev pub AddsToFirst : Message → List Channel → List Channel → Type 0
AddsToFirst m before after =
    (place : ℕ) × IsFirst (IsOf m) before place × CountsAt m place before after

-- It is of none of them: a new one at the end has it.
abbrev pub AddsToNew : Message → List Channel → List Channel → Type 0
AddsToNew m before after =
    (new with_it : Channel) × IsNew m.key.stream m.ppid None new × CountsOn m new with_it
    × (after ≡ before ++ with_it ∷ [])
