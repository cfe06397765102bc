-- How many packets of captures broke each rule.
use Rattle.std.specs.Prelude.{◌≡◌, ℕ, Bool, true, false, List, [], ◌∷◌, ◌++◌, replicate, length, Result, Ok, Err}
use Rattle.dump_capture.specs.Event.{Event, Saw, Skip}
use Rattle.dump_capture.specs.Frame.{Packet, packet_in}
use Rattle.dump_capture.specs.declared.frame.NoPacket.{NoPacket}
use Rattle.dump_packet.specs.Filter.{part_in}
use Rattle.dump_packet.specs.Warnings.{CountsRules}
use Rattle.dcsctp_receive.specs.declared.rule.{Known.{Known}, TheConstants.Rule.{ALL}}
use Rattle.dump_command.specs.Verdict.{IsVerdict}
use Rattle.dump_command.specs.declared.options.Options.{Options}
use Rattle.dump_command.specs.declared.counts.Verdict.{Verdict}
use Rattle.dump_command.specs.declared.counts.Verdict.TheVariants as verdict

-- the rules of a packet are looked at: they are asked for, and it wasn't refused
abbrev pub is_judged : Options → Verdict → Bool
is_judged o verdict.Refused = false
is_judged o _ = o.check

-- The rules that it breaks are counted then. What is known of its association is said by nothing
-- here.
abbrev pub WarnsOf : Options → Packet → Verdict → ℕ → List ℕ → List ℕ → Type 0
WarnsOf o p v word before after =
    (is_judged o v ≡ true → (known : Known) × CountsRules (part_in p) word known before after)
    × (is_judged o v ≡ false → after ≡ before)

abbrev pub WarnsPacket : Options → Packet → List ℕ → List ℕ → Type 0
WarnsPacket o p before after =
    (v : Verdict) × ((word : ℕ) × IsVerdict o p v word × WarnsOf o p v word before after)

-- ---- events

abbrev pub WarnsFrame : Options → Result Packet NoPacket → List ℕ → List ℕ → Type 0
WarnsFrame o (Ok p) before after = WarnsPacket o p before after
WarnsFrame o (Err why) before after = after ≡ before

abbrev pub WarnsEvent : Options → Event → List ℕ → List ℕ → Type 0
WarnsEvent o (Saw seen link original_length bytes) before after =
    WarnsFrame o (packet_in o.udp_port link original_length bytes) before after
WarnsEvent o (Skip place number why) before after = after ≡ before

-- how many of the packets of these events broke each rule
pub data AreWarnings (o : Options) : List Event → List ℕ → Type 0 where
  none : (events : List Event) (counts : List ℕ) → events ≡ []
      → counts ≡ replicate (length ALL) 0 → AreWarnings o events counts
  more : (events first : List Event) (last : Event) (before counts : List ℕ)
      → AreWarnings o first before → WarnsEvent o last before counts → events ≡ first ++ last ∷ []
      → AreWarnings o events counts
