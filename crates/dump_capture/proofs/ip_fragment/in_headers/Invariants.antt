use Rattle.std.proofs.Common.{◌≡◌, ◌-◌}
use Rattle.dump_capture.specs.IpFragment.{in_headers}
use Rattle.dump_capture.specs.Found.{payload_of}
use Rattle.dump_capture.proofs.ip_fragment.in_headers.Given as goal

-- in the headers that are left to read is the fragment that is in all
abbrev pub invariant-loop-k : goal.invariant-loop-k
invariant-loop-k l =
    in_headers (65536 - l._k) (payload_of l.rest) ≡ in_headers 65536 (payload_of l.fn.payload)
