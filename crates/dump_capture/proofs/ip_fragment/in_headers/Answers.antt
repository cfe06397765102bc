use Rattle.std.proofs.Common.{◌≡◌, ◌+◌, ◌-◌, false, true, Result, Ok, Err, sym, ap, ◌∙◌, arith}
use Rattle.dump_capture.specs.Payload.{Payload}
use Rattle.dump_capture.specs.IpFragment.{at_fault, first_fault, fragment_at}
use Rattle.dump_capture.specs.Frame.{begins_with_header, past_header}
use Rattle.dump_capture.specs.Found.{payload_of, payload_result}
use Rattle.dump_capture.specs.declared.frame.NoPacket.{NoPacket}
use Rattle.dump_capture.proofs.FirstFault.{no_fault, step_fault, end_fault}
use Rattle.dump_capture.proofs.ip_fragment.in_headers.Goals as goal

pub returns-then-not-is_header : goal.returns-then-not-is_header
returns-then-not-is_header c =
    let last : begins_with_header (payload_of c.loop-k.rest) ≡ false = grind arith in
    sym (no_fault fragment_at (begins_with_header) past_header 65536 c.loop-k._k
    (payload_of c.loop-k.rest) (omega arith) last)
    ∙ c.loop-k.invariant

pub returns-in-Err : goal.returns-in-Err
returns-in-Err c =
    let p = payload_of c.loop-k.rest in
    let is : begins_with_header p ≡ true = grind arith in
    let failed : past_header p ≡ Err c.in-Err.why = sym c.past_header.ensures ∙ ap
    payload_result c.in-Err.is in
    let next = step_fault fragment_at (begins_with_header) past_header 65536 c.loop-k._k p
    (omega arith) is in
    c.fragment_at.ensures
    ∙ sym (next ∙ ap (λ (r : Result Payload NoPacket). at_fault fragment_at p r
    (first_fault fragment_at (begins_with_header) past_header (65536 - (c.loop-k._k + 1))))
    failed)
    ∙ c.loop-k.invariant

pub loop-k-preserved : goal.loop-k-preserved
loop-k-preserved c =
    let p = payload_of c.loop-k.rest in
    let is : begins_with_header p ≡ true = grind arith in
    let made : past_header p ≡ Ok (payload_of c.in-Ok.inner) = sym c.past_header.ensures
    ∙ ap payload_result c.in-Ok.is in
    let next = step_fault fragment_at (begins_with_header) past_header 65536 c.loop-k._k p
    (omega arith) is in
    sym (next ∙ ap (λ (r : Result Payload NoPacket). at_fault fragment_at p r
    (first_fault fragment_at (begins_with_header) past_header (65536 - (c.loop-k._k + 1)))) made)
    ∙ c.loop-k.invariant

pub returns : goal.returns
returns c = sym (end_fault fragment_at (begins_with_header) past_header 65536 c.loop-k._k
    (payload_of c.loop-k.rest) (omega arith))
    ∙ c.loop-k.invariant
