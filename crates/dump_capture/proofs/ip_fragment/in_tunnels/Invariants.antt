use Rattle.std.proofs.Common.{◌≡◌, ◌-◌}
use Rattle.dump_capture.specs.IpFragment.{in_tunnels}
use Rattle.dump_capture.specs.Found.{payload_of}
use Rattle.dump_capture.proofs.ip_fragment.in_tunnels.Given as goal

-- in the tunnels that are left to read is the fragment that is in all
abbrev pub invariant-loop-k : goal.invariant-loop-k
invariant-loop-k l =
    in_tunnels (4 - l._k) l.fn.udp_port (payload_of l.rest) ≡ in_tunnels 4 l.fn.udp_port
    (payload_of l.fn.payload)
