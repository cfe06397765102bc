use Rattle.std.proofs.Common.{ℕ, List, [], ◌∷◌, ◌++◌, length, subst}
use Rattle.dump_capture.specs.Event.{Saw}
use Rattle.dump_capture.specs.Expanded.{as_joined}
use Rattle.dump_capture.specs.declared.event.Seen.{Seen}
use Rattle.dump_capture.proofs.Expanding.{expand-packet}
use Rattle.dump_capture.proofs.reassembler.Reassembler.hand_on.Goals as goal

pub returns-clause-handed : goal.returns-clause-handed
returns-clause-handed g c = λ events first link size frame was last made.
    let bytes = c.args.packet.now.bytes.items in
    let seen = c.args.seen.now in
    let count = c.args.packet.now.fragments in
    let H = g.S.Sink.handed c.frame.new.self in
    expand-packet g.S.Sink.handed c.args.self.now.udp_port c.args.self.now.inner c.frame.new.self
    c.args.self.now.table.packets.items events first seen link size count frame bytes
    (λ all h. subst (λ (b : List ℕ). H (all ++ Saw (as_joined seen count) 101 (length b) b ∷ []))
    c.as_slice-bytes.ensures.value
    (subst (λ (n : ℕ). H (all ++ Saw (as_joined seen count) 101 n c.as_slice-bytes.result.now ∷ []))
    c.in-Ok.ensures.1
    (subst (λ (s : Seen). H (all ++ Saw s 101 c.in-Ok.length c.as_slice-bytes.result.now ∷ []))
    c.as_joined-seen.ensures (c.frame.ensures all h)))) last made was
