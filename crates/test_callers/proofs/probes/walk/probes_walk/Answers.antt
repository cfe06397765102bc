use Rattle.std.proofs.Common.{◌≡◌, [], refl, sym, ap, ◌∙◌}
use Rattle.dcsctp_borrowed.specs.PacketRef.{reference}
use Rattle.test_callers.specs.Walk.{with_chunk, with_chunks}
use Rattle.test_callers.proofs.probes.walk.probes_walk.Goals as goal

pub loop-chunk-preserved : goal.loop-chunk-preserved
loop-chunk-preserved c = λ p answer.
    let old = c.loop-chunk.invariant p answer in
    let f = c.in-Some.ensures.steps.2.means old.0 old.1 in
    let added : c.with_chunk-sum.result ≡ with_chunk c.loop-chunk.sum f.first =
    c.with_chunk-sum.ensures f.first f.means in (
      f.others,
      f.mean,
      ap (λ n. with_chunks n f.others) added
          ∙ sym (ap (with_chunks c.loop-chunk.sum) f.split) ∙ old.2,
    )

pub returns-in-None-clause-packet : goal.returns-in-None-clause-packet
returns-in-None-clause-packet c p answer =
    let old = c.loop-chunk.invariant p answer in
    let none : old.0 ≡ [] = c.in-None.ensures.steps.means old.0 old.1 in
    sym (ap (with_chunks c.loop-chunk.sum) none) ∙ old.2

pub returns-in-Err-clause-packet : goal.returns-in-Err-clause-packet
returns-in-Err-clause-packet c p answer =
    absurd (c.in-Err.ensures.answer.value (reference c.args.bytes.now) ((p, answer), refl))
