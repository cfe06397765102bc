use Rattle.std.proofs.Common.{◌≡◌, ◌+◌, ◌-◌, false, true, Result, Ok, Err, sym, ap, ◌∙◌, arith}
use Rattle.dump_capture.specs.Payload.{Payload}
use Rattle.dump_capture.specs.IpFragment.{at_fault, first_fault, in_tunnel}
use Rattle.dump_capture.specs.Tunnel.{is_tunnel}
use Rattle.dump_capture.specs.Frame.{through_tunnel}
use Rattle.dump_capture.specs.Found.{payload_of, payload_result}
use Rattle.dump_capture.specs.declared.frame.NoPacket.{NoPacket}
use Rattle.dump_capture.proofs.FirstFault.{no_fault, step_fault, end_fault}
use Rattle.dump_capture.proofs.ip_fragment.in_tunnels.Goals as goal

pub returns-then-not-is_tunnel : goal.returns-then-not-is_tunnel
returns-then-not-is_tunnel c =
    let last : is_tunnel c.args.udp_port (payload_of c.loop-k.rest) ≡ false = grind arith in
    sym (no_fault in_tunnel (is_tunnel c.args.udp_port) through_tunnel 4 c.loop-k._k
    (payload_of c.loop-k.rest) (omega arith) last)
    ∙ c.loop-k.invariant

pub returns-in-Err : goal.returns-in-Err
returns-in-Err c =
    let p = payload_of c.loop-k.rest in
    let is : is_tunnel c.args.udp_port p ≡ true = grind arith in
    let failed : through_tunnel p ≡ Err c.in-Err.why = sym c.through_tunnel.ensures ∙ ap
    payload_result c.in-Err.is in
    let next = step_fault in_tunnel (is_tunnel c.args.udp_port) through_tunnel 4 c.loop-k._k p
    (omega arith) is in
    c.in_tunnel.ensures
    ∙ sym (next ∙ ap (λ (r : Result Payload NoPacket). at_fault in_tunnel p r
    (first_fault in_tunnel (is_tunnel c.args.udp_port) through_tunnel (4 - (c.loop-k._k + 1))))
    failed)
    ∙ c.loop-k.invariant

pub loop-k-preserved : goal.loop-k-preserved
loop-k-preserved c =
    let p = payload_of c.loop-k.rest in
    let is : is_tunnel c.args.udp_port p ≡ true = grind arith in
    let made : through_tunnel p ≡ Ok (payload_of c.in-Ok.inner) = sym c.through_tunnel.ensures
    ∙ ap payload_result c.in-Ok.is in
    let next = step_fault in_tunnel (is_tunnel c.args.udp_port) through_tunnel 4 c.loop-k._k p
    (omega arith) is in
    sym (next ∙ ap (λ (r : Result Payload NoPacket). at_fault in_tunnel p r
    (first_fault in_tunnel (is_tunnel c.args.udp_port) through_tunnel (4 - (c.loop-k._k + 1))))
    made)
    ∙ c.loop-k.invariant

pub returns : goal.returns
returns c = sym (end_fault in_tunnel (is_tunnel c.args.udp_port) through_tunnel 4 c.loop-k._k
    (payload_of c.loop-k.rest) (omega arith))
    ∙ c.loop-k.invariant
