use Rattle.std.proofs.Common.{All, take}
use Rattle.dump_packet.specs.Questions.{IsOpen}
use Rattle.dump_packet.proofs.unanswered.Unanswered.oldest.Given as goal

abbrev pub invariant-loop-place : goal.invariant-loop-place
invariant-loop-place l = All (λ q. ¬ (IsOpen l.fn.key q)) (take l.place l.fn.self.asked)
