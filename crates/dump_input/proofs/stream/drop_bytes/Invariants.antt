-- What was dropped, and what is ahead, are what was to be dropped. No device failed.
use Rattle.std.proofs.Common.{◌≡◌, ℕ, false, List, [], ◌+◌, ◌-◌, length}
use Rattle.std.specs.Io.KnownBytes.{Consumes}
use Rattle.dump_io.specs.Watched.{device_of, has_failed}
use Rattle.dump_io.specs.Window.{held, left}
use Rattle.dump_capture.specs.Event.{Hands}
use Rattle.dump_input.proofs.stream.drop_bytes.Given as goal

abbrev pub invariant-loop-ahead : goal.invariant-loop-ahead
invariant-loop-ahead g l =
    ((dropped : List ℕ) × (length dropped + l.ahead ≡ l.count)
    × Consumes (left l.initial.window (g.R.Read.remaining (device_of l.initial.input)))
    (left l.window (g.R.Read.remaining (device_of l.input))) dropped)
    × (has_failed l.initial.input ≡ false → has_failed l.input ≡ false)
    × Hands g.P.Sink.handed l.initial.printer l.printer []

abbrev pub decreases-loop-ahead : goal.decreases-loop-ahead
decreases-loop-ahead g l = l.ahead - length (held l.window)
