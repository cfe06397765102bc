-- The questions of one end: its HEARTBEATs (RFC 9260 section 8.3), or its requests to reconfigure
-- streams (RFC 6525 section 3.1). The last 8 are remembered, the oldest first, and the packets of
-- the first and the last one of others without an answer.
use Rattle.std.specs.Prelude.{◌≡◌, ◌-◌, ◌++◌, ◌∷◌, ℕ, Bool, true, false, not, List, [], Option, Some, None, All, IsSome, reverse, if◌then◌else◌}
use Rattle.std.specs.List.{find}
use Rattle.std.specs.Option.{option_or}
use Rattle.dump_capture.specs.Number.{one_more}
use Rattle.dump_packet.specs.declared.side.Side.{Side}
use Rattle.dump_packet.specs.declared.side.Side.TheVariants.{First, Second}
use Rattle.dump_packet.specs.declared.packet_number.PacketNumber.{PacketNumber}
use Rattle.dump_packet.specs.declared.unanswered.Question.{Question}
use Rattle.dump_packet.specs.declared.unanswered.Unanswered.{Unanswered}

-- it was asked, and has the key
abbrev pub HasKey : ℕ → Question → Type 0
HasKey key q = IsSome q.packet × (q.key ≡ key)

-- it has the key, and no answer
abbrev pub IsOpen : ℕ → Question → Type 0
IsOpen key q = (q.is_answered ≡ false) × (q.key ≡ key)

-- those of an end, of both ends' in this order
abbrev pub asked_by : Side → Unanswered → Unanswered → List Question
asked_by First first second = first.asked
asked_by Second first second = second.asked

-- ---- a question

abbrev pub question : ℕ → PacketNumber → Question
question key number = record { key = key; packet = Some number; is_answered = false }

-- Of one that is no longer remembered, and has no answer, the packet is kept: it is the last such
-- one, and the first if there was none.
abbrev pub forgets : Question → Unanswered → Unanswered
forgets q u =
    record u {
      first_forgotten =
          if q.is_answered then u.first_forgotten else option_or u.first_forgotten q.packet;
      forgotten = if q.is_answered then u.forgotten else q.packet;
    }

-- It is the last one now, in place of the oldest one.
abbrev pub Asks : Unanswered → ℕ → PacketNumber → Unanswered → Type 0
Asks before key number after =
    (oldest : Question) × (others : List Question) × (before.asked ≡ oldest ∷ others)
    × (after ≡ record (forgets oldest before) {
      count = one_more before.count;
      asked = others ++ question key number ∷ [];
    })

-- ---- an answer

-- The oldest question with the key that has none has one now; all else is as it was.
abbrev pub AnswersOldest : ℕ → Unanswered → Unanswered → Type 0
AnswersOldest key before after =
    (older : List Question) × (q : Question) × (newer : List Question)
    × (before.asked ≡ older ++ q ∷ newer) × All (λ p. ¬ (IsOpen key p)) older × IsOpen key q
    × (after ≡ record before {
      count = before.count - 1;
      asked = older ++ record q { is_answered = true } ∷ newer;
    })

-- ---- the packets of those without an answer

abbrev pub is_open : Question → Bool
is_open q = not q.is_answered

abbrev pub packet_or : Option PacketNumber → Option Question → Option PacketNumber
packet_or other (Some q) = q.packet
packet_or other None = other

-- that of the first one
abbrev pub first_open : Unanswered → Option PacketNumber
first_open u = option_or u.first_forgotten (packet_or None (find is_open u.asked))

-- that of the last one
abbrev pub last_open : Unanswered → Option PacketNumber
last_open u = packet_or u.forgotten (find is_open (reverse u.asked))
