use Rattle.dump_capture.specs.Event.{Saw}
use Rattle.dump_capture.proofs.Expanding.{expand-event}
use Rattle.dump_capture.proofs.reassembler.ReassemblerSink.frame.Goals as goal

pub returns-then-is_fragment : goal.returns-then-is_fragment
returns-then-is_fragment g c = λ xs was. c.look.ensures xs
    (expand-event g.S.Sink.handed c.args.self.now.udp_port c.args.self.now.inner c.frame.new.self
    c.args.self.now.table.packets.items xs
    (Saw c.args.seen.now c.args.link_type c.args.original_length c.args.bytes.now)
    c.frame.ensures was)

pub returns-else-is_fragment : goal.returns-else-is_fragment
returns-else-is_fragment g c = λ xs was. expand-event g.S.Sink.handed c.args.self.now.udp_port
    c.args.self.now.inner c.frame.new.self c.args.self.now.table.packets.items xs
    (Saw c.args.seen.now c.args.link_type c.args.original_length c.args.bytes.now)
    c.frame.ensures was
