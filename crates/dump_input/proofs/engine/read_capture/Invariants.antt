-- Items were taken so far, and their events handed on. No device failed.
use Rattle.std.proofs.Common.{◌≡◌, false, true}
use Rattle.std.specs.Io.KnownBytes.{IsAtEnd}
use Rattle.dump_io.specs.Watched.{device_of, has_failed}
use Rattle.dump_io.specs.Window.{left}
use Rattle.dump_input.specs.Handed.{Takes}
use Rattle.dump_input.proofs.engine.read_capture.Given as goal

abbrev pub invariant-loop : goal.invariant-loop
invariant-loop g l =
    Takes g.D.Decoder.Item g.P.Sink.handed
    (g.D.Decoder.state l.initial.decoder) (g.D.Decoder.state l.decoder)
    (left l.initial.window (g.R.Read.remaining (device_of l.initial.input)))
    (left l.window (g.R.Read.remaining (device_of l.input)))
    l.initial.printer l.printer
    × (has_failed l.initial.input ≡ false → has_failed l.input ≡ false)
    × (l.at_end ≡ true → IsAtEnd (g.R.Read.remaining (device_of l.input)))
