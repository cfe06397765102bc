-- What each place adds comes before what those after it add.
use Rattle.std.proofs.Common.{◌≡◌, ◌+◌, ◌∷◌, ℕ, false, drop, slice_index_or, inl, inr, subst, sym, ap, ◌∙◌, arith}
use Rattle.std.proofs.lemmas.Bool.{cases_eq}
use Rattle.std.proofs.lemmas.List.{drop_more, drop_all}
use Rattle.dump_packet.specs.Acknowledged.{IsAcknowledgedBy}
use Rattle.dump_associations.specs.RoundTrips.{AddsEach, none}
use Rattle.dump_associations.specs.declared.associations.round_trips.Sent.{Sent}
use Rattle.dump_associations.proofs.associations.round_trips.RoundTrips.end.Goals as goal

pub loop-place-preserved : goal.loop-place-preserved
loop-place-preserved c =
    let i = c.loop-place.place in
    let invariant = c.loop-place.invariant in
    let step = c.end_at.ensures in
    let sents = c.args.self.now.waiting in
    let d : Sent = record { tsn = 0; is_waiting = false; nanoseconds = 0 } in
    record {
      size = step.size ∙ invariant.size;
      later = λ k e from. step.others k e (omega (arith, from)) ∙ invariant.later k e (omega (arith, from));
      ended = λ k e before acknowledged. elim (cases_eq k i) [
        | inl here ↦ subst (λ (n : ℕ). IsAcknowledgedBy c.args.acknowledged (slice_index_or c.end_at.new.self.waiting n e).tsn
            → (slice_index_or c.end_at.new.self.waiting n e).is_waiting ≡ false) (sym here) (step.ended e) acknowledged
        | inr apart ↦
            let same = step.others k e apart in
            ap (λ (s : Sent). s.is_waiting) same
            ∙ invariant.ended k e (omega (arith, before, apart))
            (subst (λ (s : Sent). IsAcknowledgedBy c.args.acknowledged s.tsn) same acknowledged)
      ];
      added = λ after adds. invariant.added after
          (subst (λ xs. AddsEach c.args.acknowledged c.args.nanoseconds c.args.packet xs c.loop-place.self.delays after)
          (sym (drop_more sents i d (omega arith)))
          (subst (λ (s : Sent). AddsEach c.args.acknowledged c.args.nanoseconds c.args.packet (s ∷ drop (i + 1) sents) c.loop-place.self.delays after)
          (invariant.later i d (omega arith))
          (step.added d (drop (i + 1) sents) after adds)));
      passed = step.passed ∙ invariant.passed;
    }

pub returns-clause-added : goal.returns-clause-added
returns-clause-added c =
    let done = c.loop-place-test.false in
    c.loop-place.invariant.added c.loop-place.self.delays
    (subst (λ xs. AddsEach c.args.acknowledged c.args.nanoseconds c.args.packet xs c.loop-place.self.delays c.loop-place.self.delays)
    (sym (drop_all c.loop-place.place c.args.self.now.waiting (omega (arith, done))))
    (none c.loop-place.self.delays))

pub returns-clause-ended : goal.returns-clause-ended
returns-clause-ended c k d within acknowledged =
    let done = c.loop-place-test.false in
    let size = c.loop-place.invariant.size in
    c.loop-place.invariant.ended k d (omega (arith, done, size, within)) acknowledged
