-- The paths of an association, and how many packets were counted of them.
use Rattle.std.specs.Prelude.{◌≡◌, ◌≢◌, ◌+◌, ◌<◌, ◌≤◌, ◌⊎◌, ◌++◌, ◌∷◌, ℕ, List, [], length, slice_index_or, slice_get, slice_set, Option, Some, None, Any}
use Rattle.std.specs.List.{sum_by}
use Rattle.dump_capture.specs.Number.{one_more}
use Rattle.dump_packet.specs.SeenPackets.{Packet}
use Rattle.dump_associations.specs.Counts.{CountsPacket, nothing}
use Rattle.dump_packet.specs.Firsts.{IsFirst}
use Rattle.dump_packet.specs.Questions.{IsOpen, AnswersOldest}
use Rattle.dump_packet.specs.SeenPackets.{AreAddresses}
use Rattle.dump_packet.specs.declared.side.Side.{Side}
use Rattle.dump_packet.specs.declared.seen_packet.SeenPacket.{SeenPacket}
use Rattle.dump_associations.specs.declared.paths.path.Path.{Path}
use Rattle.dump_associations.specs.declared.paths.path.Way.{Way}
use Rattle.dump_packet.specs.declared.unanswered.Unanswered.{Unanswered}

abbrev pub packets_on : List Path → ℕ
packets_on paths = sum_by (λ p. p.counts.packets) paths

-- those on the paths that are kept, and those on others
abbrev pub seen_on : List Path → ℕ → ℕ
seen_on paths others = packets_on paths + others

-- ---- the way that a packet takes

-- whose packet it is, and between which addresses
abbrev pub Takes : Side → SeenPacket → Way → Type 0
Takes sender p way = (way.sender ≡ sender) × AreAddresses p.found.addresses way.from way.to

abbrev pub Goes : Way → Path → Type 0
Goes way path = path.way ≡ way

-- ---- a packet is counted of one path

-- These paths go the same ways as those, and have the same counts.
abbrev pub CountAlike : List Path → List Path → Type 0
CountAlike before after =
    (length after ≡ length before)
    × ((k : ℕ) (d : Path) → k < length before
    → (slice_index_or after k d).way ≡ (slice_index_or before k d).way)
    × ((k : ℕ) (d : Path) → k < length before
    → (slice_index_or after k d).counts ≡ (slice_index_or before k d).counts)

-- The path in this place has the packet too; all other counts are the same, and so are the ways.
abbrev pub CountsAt : Packet → ℕ → List Path → List Path → Type 0
CountsAt p place before after =
    (place < length before) × (length after ≡ length before)
    × ((k : ℕ) (d : Path) → k < length before
    → (slice_index_or after k d).way ≡ (slice_index_or before k d).way)
    × ((k : ℕ) (d : Path) → k < length before → k ≢ place
    → (slice_index_or after k d).counts ≡ (slice_index_or before k d).counts)
    × ((d : Path)
    → CountsPacket (slice_index_or before place d).counts p (slice_index_or after place d).counts)

-- A path goes this way and has no packets.
abbrev pub IsNew : Way → Path → Type 0
IsNew way path = (path.way ≡ way) × (path.counts ≡ nothing)

-- Where a path goes this way, the first one has the packet; else a new one at the end, if 16 are
-- not kept yet; else it is one of the packets on others.
abbrev pub CountsOnce : Packet → Way → List Path → ℕ → List Path → ℕ → Type 0
CountsOnce p way before others after others_after =
    ((place : ℕ) × IsFirst (Goes way) before place × CountsAt p place before after
    × (others_after ≡ others))
    ⊎ (¬ (Any (Goes way) before) × (length before < 16) × ((new : Path) × IsNew way new
    × CountsAt p (length before) (before ++ new ∷ []) after) × (others_after ≡ others))
    ⊎ (¬ (Any (Goes way) before) × (16 ≤ length before) × CountAlike before after
    × (others_after ≡ one_more others))

-- The place of the path that goes this way: it is put at the end if it is new and there is room,
-- and is beyond the end if there is none.
abbrev pub FindsPlace : Way → List Path → ℕ → List Path → Type 0
FindsPlace way before place after =
    (IsFirst (Goes way) before place × (after ≡ before))
    ⊎ (¬ (Any (Goes way) before) × (length before < 16) × (place ≡ length before)
    × ((new : Path) × IsNew way new × (after ≡ before ++ new ∷ [])))
    ⊎ (¬ (Any (Goes way) before) × (16 ≤ length before) × (place ≡ length before)
    × (after ≡ before))

-- ---- an answer to a HEARTBEAT (RFC 9260 section 8.3)

-- It is a path of this end, on which a HEARTBEAT with this key has no answer.
abbrev pub Awaits : Side → ℕ → Path → Type 0
Awaits asker key path = (path.way.sender ≡ asker) × Any (IsOpen key) path.heartbeats.asked

-- The oldest HEARTBEAT with this key that has no answer, of the path in this place, has one now;
-- nothing else changes.
abbrev pub AnswersAt : ℕ → ℕ → List Path → List Path → Type 0
AnswersAt key place before after = (path : Path) × (answered : Unanswered)
    × (slice_get before place ≡ Some path)
    × (Any (IsOpen key) path.heartbeats.asked → AnswersOldest key path.heartbeats answered)
    × (after ≡ slice_set before place (record path { heartbeats = answered }))

-- the first path of this end that awaits it has the answer
abbrev pub AnswersFirst : Side → ℕ → List Path → List Path → Type 0
AnswersFirst asker key before after =
    (place : ℕ) × IsFirst (Awaits asker key) before place × AnswersAt key place before after
