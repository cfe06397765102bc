use Rattle.std.proofs.Common.{◌≡◌, ◌+◌, ◌-◌, false, true, sym, ap, ◌∙◌, arith}
use Rattle.std.proofs.lemmas.Result.{err_from_is_err_and}
use Rattle.dump_capture.specs.Payload.{◌>>=◌, after_steps}
use Rattle.dump_capture.specs.Frame.{begins_with_header, past_header}
use Rattle.dump_capture.specs.Found.{payload_of}
use Rattle.dump_capture.proofs.Headers.{at_last, at_step, at_most}
use Rattle.dump_capture.proofs.frame.past_headers.Goals as goal

pub returns-then-not-is_header : goal.returns-then-not-is_header
returns-then-not-is_header c =
    let last : begins_with_header (payload_of c.loop-k.rest) ≡ false = grind arith in
    sym (at_last begins_with_header past_header 65536 c.loop-k._k (payload_of c.loop-k.rest) (omega arith) last)
    ∙ c.loop-k.invariant

pub returns-in_err-rest : goal.returns-in_err-rest
returns-in_err-rest c =
    let is : begins_with_header (payload_of c.loop-k.rest) ≡ true = grind arith in
    let next = at_step begins_with_header past_header 65536 c.loop-k._k (payload_of c.loop-k.rest) (omega arith) is
    in
    let p = err_from_is_err_and c.from_residual.result c.from_residual.ensures.1 in
    rw (p.1, p.2) (ap (λ r. r >>= after_steps begins_with_header past_header (65536 - (c.loop-k._k + 1)))
    c.in_err-rest.ensures ∙ sym next ∙ c.loop-k.invariant)

pub loop-k-preserved : goal.loop-k-preserved
loop-k-preserved c =
    let is : begins_with_header (payload_of c.loop-k.rest) ≡ true = grind arith in
    let next = at_step begins_with_header past_header 65536 c.loop-k._k (payload_of c.loop-k.rest) (omega arith) is
    in
    ap (λ r. r >>= after_steps begins_with_header past_header (65536 - (c.loop-k._k + 1))) c.in_ok-rest.ensures
    ∙ sym next ∙ c.loop-k.invariant

pub returns : goal.returns
returns c = sym (at_most begins_with_header past_header 65536 c.loop-k._k (payload_of c.loop-k.rest) (omega arith))
    ∙ c.loop-k.invariant
