use Rattle.std.proofs.Common.{◌+◌, take, drop, slice_index_or, None, false, true, refl}
use Rattle.dump_packet.specs.declared.unanswered.Question.{Question}
use Rattle.dump_packet.proofs.Questions.{split, split_set}
use Rattle.dump_packet.proofs.unanswered.Unanswered.answer.Goals as goal

pub returns-in-Some-clause-oldest : goal.returns-in-Some-clause-oldest
returns-in-Some-clause-oldest c _ =
    let qs = c.args.self.now.asked in
    let place = c.in-Some.place in
    let is = c.in-Some.ensures.some in
    let d : Question = record { key = 0; packet = None; is_answered = false } in
    let q = slice_index_or qs place d in (
      take place qs,
      q,
      drop (place + 1) qs,
      split qs place d is.0,
      is.1,
      is.2 d,
      rw (c.saturating_sub-self.ensures, split_set qs place (record q { is_answered = true }) is.0)
          refl,
    )
