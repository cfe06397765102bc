use Rattle.std.proofs.Common.{◌≡◌, [], Some, None, refl, arith}
use Rattle.dump_capture.specs.Found.{payload_of}
use Rattle.dump_capture.specs.Tunnels.{first_tunnel, tunnels}
use Rattle.dump_capture.proofs.FirstTunnel.{none_first, one_first}
use Rattle.dump_capture.proofs.tunnels.TunnelsIterator.next.Goals as goal

pub returns-then-self-eq0-clause-steps : goal.returns-then-self-eq0-clause-steps
unfolding tunnels
returns-then-self-eq0-clause-steps c =
    let none : c.args.self.now ≡ [] = rw (← c.self.view_is, c.if-self-eq0.true) refl in
    (none, none)

pub returns-in-Some-clause-steps : goal.returns-in-Some-clause-steps
returns-in-Some-clause-steps c =
    let found : first_tunnel c.self.inside.udp_port (payload_of c.self.inside.rest)
    ≡ Some (c.in-Some.tunnel, payload_of c.in-Some.rest) = grind arith in
    rw (← c.self.view_is) (one_first c.self.inside.left c.self.inside.udp_port
    (payload_of c.self.inside.rest) (payload_of c.in-Some.rest) c.in-Some.tunnel
    c.if-self-eq0.false found)

pub returns-in-Some-clause-goes : goal.returns-in-Some-clause-goes
returns-in-Some-clause-goes c =
    rw (returns-in-Some-clause-steps c) record
    { on = λ _. (tt, tt, omega arith); keeps = tt; rests = λ _. tt }

pub returns-in-None-clause-steps : goal.returns-in-None-clause-steps
returns-in-None-clause-steps c =
    let none : first_tunnel c.self.inside.udp_port (payload_of c.self.inside.rest) ≡ None = grind arith in
    let all : c.args.self.now ≡ [] = rw (← c.self.view_is) (none_first c.self.inside.left
    c.self.inside.udp_port (payload_of c.self.inside.rest) none) in
    (all, all)
