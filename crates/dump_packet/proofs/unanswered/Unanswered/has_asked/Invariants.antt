use Rattle.std.proofs.Common.{ℕ, ◌≡◌, ◌<◌}
use Rattle.std.specs.List.{slice_index_or}
use Rattle.dump_packet.specs.Questions.{HasKey}
use Rattle.dump_packet.specs.declared.unanswered.Question.{Question}
use Rattle.dump_packet.proofs.unanswered.Unanswered.has_asked.Given as goal

abbrev pub invariant-loop-question : goal.invariant-loop-question
invariant-loop-question l =
    (k : ℕ) (q : Question) → k < l.question-index → slice_index_or l.fn.self.asked k q ≡ q → ¬ (HasKey l.fn.key q)
