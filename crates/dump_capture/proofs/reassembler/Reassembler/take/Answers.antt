use Rattle.std.proofs.Common.{Option, subst}
use Rattle.std.specs.Option.{IfSome}
use Rattle.dump_capture.specs.Reassembly.{IsJoined, fragments_in}
use Rattle.dump_capture.specs.declared.reassembly.JoinedPacket.{JoinedPacket}
use Rattle.dump_capture.proofs.Expanding.{expand-kept}
use Rattle.dump_capture.proofs.reassembler.Reassembler.take.Goals as goal

pub returns-in_err-packet-clause-handed : goal.returns-in_err-packet-clause-handed
returns-in_err-packet-clause-handed g c = λ events first link size frame was last has.
    expand-kept g.S.Sink.handed c.args.self.now.udp_port c.args.self.now.inner
    c.args.self.now.table.packets.items c.add.new.self.packets.items events
    (λ all. c.add.ensures.kept (fragments_in c.args.self.now.udp_port events) all has) was

pub returns-in_default-clause-handed : goal.returns-in_default-clause-handed
returns-in_default-clause-handed g c = λ events first link size frame was last has.
    expand-kept g.S.Sink.handed c.args.self.now.udp_port c.args.self.now.inner
    c.args.self.now.table.packets.items c.add.new.self.packets.items events
    (λ all. c.add.ensures.kept (fragments_in c.args.self.now.udp_port events) all has) was

pub returns-in-Some-clause-handed : goal.returns-in-Some-clause-handed
returns-in-Some-clause-handed g c = λ events first link size frame was last has.
    let fs = fragments_in c.args.self.now.udp_port events in
    c.hand_on.ensures.handed events first link size frame
    (expand-kept g.S.Sink.handed c.args.self.now.udp_port c.args.self.now.inner
    c.args.self.now.table.packets.items c.add.new.self.packets.items events
    (λ all. c.add.ensures.kept fs all has) was) last
    (subst (λ (o : Option JoinedPacket). IfSome o (λ p. IsJoined fs p.bytes.items p.fragments)) c.in-Some.is
    (c.in_ok-packet.ensures.joined fs was.3 has))
