use Rattle.std.proofs.Common.{◌≡◌, take}
use Rattle.std.specs.Prelude.{reverse}
use Rattle.std.specs.List.{find}
use Rattle.dump_packet.specs.Questions.{is_open, packet_or}
use Rattle.dump_packet.proofs.unanswered.Unanswered.last.Given as goal

abbrev pub invariant-loop-question : goal.invariant-loop-question
invariant-loop-question l =
    l.last ≡ packet_or l.self.forgotten
    (find is_open (reverse (take l.question-index l.self.asked)))
