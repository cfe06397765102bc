use Rattle.std.proofs.Common.{slice_index_or, None, false, refl}
use Rattle.std.proofs.lemmas.List.{get_or_default}
use Rattle.dump_packet.specs.declared.unanswered.Question.{Question}
use Rattle.dump_packet.proofs.unanswered.Unanswered.awaits.Goals as goal

pub returns-in-Some : goal.returns-in-Some
returns-in-Some c =
    let qs = c.args.self.now.asked in
    let place = c.in-Some.field-0 in
    let is = c.in-Some.ensures.some in
    let d : Question = record { key = 0; packet = None; is_answered = false } in
    let q = slice_index_or qs place d in
    (λ _. (place, q, is.0, get_or_default qs place q d is.0, is.2 d), λ _. refl)
