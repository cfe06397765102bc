-- Nothing of the input was lost, or handed on. No device failed.
use Rattle.std.proofs.Common.{◌≡◌, ◌-◌, false, [], length}
use Rattle.std.specs.Io.KnownBytes.{Keeps}
use Rattle.dump_io.specs.Watched.{device_of, has_failed}
use Rattle.dump_io.specs.Window.{held, left}
use Rattle.dump_capture.specs.Event.{Hands}
use Rattle.dump_input.proofs.input.find_format.Given as goal

abbrev pub invariant-loop-window : goal.invariant-loop-window
invariant-loop-window g l =
    Keeps (g.R.Read.remaining (device_of l.initial.input))
    (left l.window (g.R.Read.remaining (device_of l.input)))
    × (has_failed l.initial.input ≡ false → has_failed l.input ≡ false)
    × Hands g.P.Sink.handed l.initial.printer l.printer []

abbrev pub decreases-loop-window : goal.decreases-loop-window
decreases-loop-window g l = 4 - length (held l.window)
