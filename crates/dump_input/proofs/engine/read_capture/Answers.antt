use Rattle.std.proofs.Common.{◌≡◌, Option, Some, IfSome, subst, rules}
use Rattle.dump_input.proofs.Steps.{IfErr-residual, Takes-none, Takes-trans, HandsAll-after, Stops-after}
use Rattle.dump_input.proofs.engine.read_capture.Goals as goal

of_some : {A : Type 0} (Q : A → Type 0) (o : Option A) (x : A) → o ≡ Some x → IfSome o Q → Q x
of_some {A} Q o x is holds = subst (λ (p : Option A). IfSome p Q) is holds

pub loop-init : goal.loop-init
loop-init g c =
    (Takes-none g.D.Decoder.Item g.D.Decoder.End g.P.Sink.handed _ _ _, λ none. none, λ is. cc)

pub returns-in_err-ended-clause-stopped : goal.returns-in_err-ended-clause-stopped
returns-in_err-ended-clause-stopped g c =
    IfErr-residual _ c.in_err-ended.field-0.0 _ c.from_residual.ensures.1
    (Stops-after g.D.Decoder.Item g.D.Decoder.End g.P.Sink.handed _ _ _ _ _ _ _ _
    c.loop.invariant.0 c.in_err-ended.ensures.stopped)

pub returns-in-None-clause-whole : goal.returns-in-None-clause-whole
returns-in-None-clause-whole g c =
    HandsAll-after g.D.Decoder.Item g.D.Decoder.End g.P.Sink.handed _ _ _ _ _ _ _ _
    c.loop.invariant.0 (c.in_ok-ended.ensures.whole c.in-None.is)

pub loop-preserved : goal.loop-preserved
loop-preserved g c = (
  Takes-trans g.D.Decoder.Item g.D.Decoder.End g.P.Sink.handed _ _ _ _ _ _ _ _ _
      c.loop.invariant.0 (of_some _ _ _ c.in-Some.is c.in_ok-ended.ensures.taken),
  search rules,
  of_some _ _ _ c.in-Some.is c.in_ok-ended.ensures.at_end,
)
