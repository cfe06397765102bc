use Rattle.dump_capture.specs.Event.{Skip}
use Rattle.dump_capture.proofs.Expanding.{expand-event}
use Rattle.dump_capture.proofs.reassembler.ReassemblerSink.skipped.Goals as goal

pub returns : goal.returns
returns g c = λ xs was. expand-event g.S.Sink.handed c.args.self.now.udp_port c.args.self.now.inner
    c.skipped.new.self c.args.self.now.table.packets.items xs
    (Skip c.args.part c.args.number c.args.why) c.skipped.ensures was
