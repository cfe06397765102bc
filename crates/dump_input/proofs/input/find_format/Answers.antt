use Rattle.std.proofs.Common.{◌≤◌, ap, length, ◌∙◌, arith}
use Rattle.dump_io.specs.Watched.{device_of}
use Rattle.dump_io.specs.Window.{held}
use Rattle.dump_input.specs.Inputs.{format_of}
use Rattle.dump_input.proofs.InputFormats.{format_known}
use Rattle.dump_input.proofs.input.find_format.Goals as goal

pub returns-clause-format : goal.returns-clause-format
returns-clause-format g c =
    let front = held c.loop-window.window in
    let long : 4 ≤ length front = omega (arith, c.len.ensures, c.loop-window-test.false) in
    format_known c.args.form front c.format_of-2.result
    (g.R.Read.remaining (device_of c.loop-window.input)) long
    (c.format_of-2.ensures ∙ ap (format_of c.args.form) c.held-2.ensures)
