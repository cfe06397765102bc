use Rattle.std.proofs.Common.{◌≡◌, ◌++◌, ◌∷◌, [], List, length, take, drop, slice_index_or, slice_set, None, false, ap, ◌∙◌, refl, arith}
use Rattle.dump_capture.specs.Number.{one_more}
use Rattle.dump_packet.specs.Questions.{question}
use Rattle.dump_packet.specs.declared.unanswered.Question.{Question}
use Rattle.dump_packet.specs.declared.unanswered.Unanswered.{Unanswered}
use Rattle.dump_packet.proofs.Questions.{turned, front}
use Rattle.dump_packet.proofs.unanswered.Unanswered.ask.Goals as goal

pub returns : goal.returns
returns c =
    let before = c.args.self.now in
    let qs = before.asked in
    let q = question c.args.key c.args.packet in
    let d : Question = record { key = 0; packet = None; is_answered = false } in
    let oldest = slice_index_or qs 0 d in
    let left = c.forget.ensures in
    let same : c.forget.new.self.asked ≡ qs = ap (λ (u : Unanswered). u.asked) left in
    let long : length qs ≡ 8 = omega arith in
    let count : c.increase.new.count ≡ one_more before.count =
    c.increase.ensures ∙ ap (λ (u : Unanswered). one_more u.count) left in
    let first = ap (λ (u : Unanswered). u.first_forgotten) left in
    let last = ap (λ (u : Unanswered). u.forgotten) left in
    let asked : slice_set c.rotate_left.new.self 7 q ≡ drop 1 qs ++ q ∷ [] =
    turned qs c.rotate_left.new.self q long
    (c.rotate_left.ensures.after ∙ ap (λ (l : List Question). drop 1 l ++ take 1 l) same) in
    (oldest, drop 1 qs, front qs d (omega (arith, long)), rw (count, asked, first, last) refl)
