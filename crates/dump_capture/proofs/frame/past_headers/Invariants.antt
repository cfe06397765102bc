use Rattle.std.proofs.Common.{◌≡◌, ◌-◌}
use Rattle.dump_capture.specs.Frame.{past_headers}
use Rattle.dump_capture.specs.Found.{payload_of}
use Rattle.dump_capture.proofs.frame.past_headers.Given as goal

-- after the headers that are left to read is what is after all
abbrev pub invariant-loop-k : goal.invariant-loop-k
invariant-loop-k l =
    past_headers (65536 - l._k) (payload_of l.rest) ≡ past_headers 65536
    (payload_of l.fn.payload)
