use Rattle.std.proofs.Common.{List, sym, subst, append-nil}
use Rattle.dump_capture.specs.Event.{Event}
use Rattle.dump_capture.specs.Expanded.{IsExpanded}
use Rattle.dump_input.proofs.printer.ReassemblerPrinter.show.Goals as goal

pub returns : goal.returns
returns g c = λ xs was.
    let handed = g.P.Sink.handed in
    let new = c.show.new.self in
    subst (λ (events : List Event). IsExpanded handed c.args.self.now.udp_port new
    c.args.self.now.table.packets.items events) (sym (append-nil xs)) (
      was.0,
      subst (handed new) (append-nil was.0) (c.show.ensures was.0 was.1),
      was.2,
      was.3,
    )
