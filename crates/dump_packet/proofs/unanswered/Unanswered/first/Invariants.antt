use Rattle.std.proofs.Common.{◌≡◌, drop}
use Rattle.std.specs.List.{find}
use Rattle.dump_packet.specs.Questions.{is_open}
use Rattle.dump_packet.proofs.unanswered.Unanswered.first.Given as goal

abbrev pub invariant-loop-question : goal.invariant-loop-question
invariant-loop-question l =
    find is_open l.self.asked ≡ find is_open (drop l.question-index l.self.asked)
