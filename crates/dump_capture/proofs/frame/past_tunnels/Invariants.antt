use Rattle.std.proofs.Common.{◌≡◌, ◌-◌}
use Rattle.dump_capture.specs.Frame.{past_tunnels}
use Rattle.dump_capture.specs.Found.{payload_of}
use Rattle.dump_capture.proofs.frame.past_tunnels.Given as goal

-- after the tunnels that are left to read is what is after all
abbrev pub invariant-loop-k : goal.invariant-loop-k
invariant-loop-k l =
    past_tunnels (4 - l._k) l.fn.udp_port (payload_of l.rest) ≡ past_tunnels 4 l.fn.udp_port
    (payload_of l.fn.payload)
