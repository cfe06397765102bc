use Rattle.std.proofs.Common.{◌≡◌, ◌+◌, ◌-◌, false, true, sym, ap, ◌∙◌, arith}
use Rattle.std.proofs.lemmas.Result.{err_from_is_err_and}
use Rattle.dump_capture.specs.Payload.{◌>>=◌, after_steps}
use Rattle.dump_capture.specs.Tunnel.{is_tunnel}
use Rattle.dump_capture.specs.Frame.{through_tunnel}
use Rattle.dump_capture.specs.Found.{payload_of}
use Rattle.dump_capture.proofs.Headers.{at_last, at_step, at_most}
use Rattle.dump_capture.proofs.frame.past_tunnels.Goals as goal

pub returns-then-not-is_tunnel : goal.returns-then-not-is_tunnel
returns-then-not-is_tunnel c =
    let last : is_tunnel c.args.udp_port (payload_of c.loop-k.rest) ≡ false = grind arith in
    sym (at_last (is_tunnel c.args.udp_port) through_tunnel 4 c.loop-k._k (payload_of c.loop-k.rest) (omega arith) last)
    ∙ c.loop-k.invariant

pub returns-in_err-rest : goal.returns-in_err-rest
returns-in_err-rest c =
    let is : is_tunnel c.args.udp_port (payload_of c.loop-k.rest) ≡ true = grind arith in
    let next = at_step (is_tunnel c.args.udp_port) through_tunnel 4 c.loop-k._k (payload_of c.loop-k.rest) (omega arith) is
    in
    let p = err_from_is_err_and c.from_residual.result c.from_residual.ensures.1 in
    rw (p.1, p.2) (ap (λ r. r >>= after_steps (is_tunnel c.args.udp_port) through_tunnel (4 - (c.loop-k._k + 1)))
    c.in_err-rest.ensures ∙ sym next ∙ c.loop-k.invariant)

pub loop-k-preserved : goal.loop-k-preserved
loop-k-preserved c =
    let is : is_tunnel c.args.udp_port (payload_of c.loop-k.rest) ≡ true = grind arith in
    let next = at_step (is_tunnel c.args.udp_port) through_tunnel 4 c.loop-k._k (payload_of c.loop-k.rest) (omega arith) is
    in
    ap (λ r. r >>= after_steps (is_tunnel c.args.udp_port) through_tunnel (4 - (c.loop-k._k + 1))) c.in_ok-rest.ensures
    ∙ sym next ∙ c.loop-k.invariant

pub returns : goal.returns
returns c = sym (at_most (is_tunnel c.args.udp_port) through_tunnel 4 c.loop-k._k (payload_of c.loop-k.rest) (omega arith))
    ∙ c.loop-k.invariant
