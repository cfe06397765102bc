-- What was dropped is a beginning of the line. No device failed.
use Rattle.std.proofs.Common.{◌≡◌, false, []}
use Rattle.dump_io.specs.Watched.{device_of, has_failed}
use Rattle.dump_io.specs.Window.{left}
use Rattle.dump_capture.specs.Event.{Hands}
use Rattle.dump_input.proofs.LineDrops.{Dropped}
use Rattle.dump_input.proofs.stream.drop_line.Given as goal

abbrev pub invariant-loop : goal.invariant-loop
invariant-loop g l =
    Dropped (left l.initial.window (g.R.Read.remaining (device_of l.initial.input)))
    (left l.window (g.R.Read.remaining (device_of l.input)))
    × (has_failed l.initial.input ≡ false → has_failed l.input ≡ false)
    × Hands g.P.Sink.handed l.initial.printer l.printer []
