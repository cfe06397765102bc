-- A printer that hasn't failed counted one event more, and the rules that its packet breaks.
use Rattle.std.proofs.Common.{◌≡◌, false, ℕ, List, [], ◌∷◌, ◌++◌, Option, None, Some, is_some, Result, Ok, Err, refl, subst}
use Rattle.dump_capture.specs.Event.{Event}
use Rattle.dump_capture.specs.Frame.{Packet}
use Rattle.dump_capture.specs.declared.frame.NoPacket.{NoPacket}
use Rattle.dump_command.specs.declared.options.Options.{Options}
use Rattle.dump_command.specs.declared.counts.Counts.{Counts}
use Rattle.dump_command.specs.declared.counts.Verdict.{Verdict}
use Rattle.dump_command.specs.declared.failure.Failure.{Failure}
use Rattle.dump_command.specs.Counts.{AreCounts, more, CountsEvent, CountsFrame, CountsPacket}
use Rattle.dump_command.specs.Verdict.{IsVerdict}
use Rattle.dump_command.specs.Warnings as warnings
use Rattle.dump_command.specs.Warnings.{AreWarnings, WarnsEvent, WarnsFrame, WarnsOf}

pub sound : (failure : Option Failure) → is_some failure ≡ false → failure ≡ None
sound None is = refl
sound (Some failure) is = cc

pub counted_more : (o : Options) (events : List Event) (event : Event) (before after : Counts)
    → CountsEvent o before event after → AreCounts o events before
    → AreCounts o (events ++ event ∷ []) after
counted_more o events event before after counts old =
    more (events ++ event ∷ []) events event before after old counts refl

pub warned_more : (o : Options) (events : List Event) (event : Event) (before after : List ℕ)
    → WarnsEvent o event before after → AreWarnings o events before
    → AreWarnings o (events ++ event ∷ []) after
warned_more o events event before after warns old =
    warnings.more (events ++ event ∷ []) events event before after old warns refl

-- what was found of a frame
pub counts_packet : (o : Options) (before after : Counts) (p : Packet) (r : Result Packet NoPacket)
    → Ok p ≡ r → CountsPacket o before p after → CountsFrame o before r after
counts_packet o before after p r is counts =
    subst (λ (x : Result Packet NoPacket). CountsFrame o before x after) is counts

pub counts_none : (o : Options) (before after : Counts) (why : NoPacket)
    (r : Result Packet NoPacket) → Err why ≡ r → CountsFrame o before (Err why) after
    → CountsFrame o before r after
counts_none o before after why r is counts =
    subst (λ (x : Result Packet NoPacket). CountsFrame o before x after) is counts

pub warns_packet : (o : Options) (before after : List ℕ) (p : Packet) (r : Result Packet NoPacket)
    (v : Verdict) (word : ℕ) → Ok p ≡ r → IsVerdict o p v word → WarnsOf o p v word before after
    → WarnsFrame o r before after
warns_packet o before after p r v word is found warns =
    subst (λ (x : Result Packet NoPacket). WarnsFrame o x before after) is
    (v, (word, found, warns))

pub warns_none : (o : Options) (before : List ℕ) (why : NoPacket) (r : Result Packet NoPacket)
    → Err why ≡ r → WarnsFrame o r before before
warns_none o before why r is =
    subst (λ (x : Result Packet NoPacket). WarnsFrame o x before before) is refl
