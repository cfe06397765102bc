use Rattle.std.proofs.Common.{sym, subst}
use Rattle.dcsctp_wire.specs.Caller.{PacketTree, packet_view, chunk_view, init_ack_view}
use Rattle.test_callers.specs.Reply.{IsReply, back}
use Rattle.test_callers.proofs.Replies.{replied, without_room}
use Rattle.test_callers.proofs.answer.answer.Goals as goal

pub returns-in-Some-clause-reply : goal.returns-in-Some-clause-reply
returns-in-Some-clause-reply c =
    let packet = packet_view c.in_ok-packet.packet in
    replied c.in_ok-one_chunk-in-Some.field-0 c.args.bytes.now (init_ack_view c.args.own)
    c.args.peer_tag packet (back packet.meaning c.in-Some.tag (chunk_view c.in-Some.chunk))
    c.in_ok-packet.ensures.answer.value c.in-Some.ensures.reply
    c.in_ok-one_chunk-in-Some.ensures.sealed

pub returns-in-Some-clause-nothing : goal.returns-in-Some-clause-nothing
returns-in-Some-clause-nothing c =
    let packet = packet_view c.in_ok-packet.packet in
    without_room c.in_ok-one_chunk-in-Some.field-0 c.args.bytes.now (init_ack_view c.args.own)
    c.args.peer_tag c.args.limit packet (back packet.meaning c.in-Some.tag
    (chunk_view c.in-Some.chunk))
    c.in_ok-packet.ensures.answer.value c.in-Some.ensures.reply
    c.in_ok-one_chunk-in-Some.ensures.nothing

pub returns-clause-nothing : goal.returns-clause-nothing
returns-clause-nothing c = λ p m read reply.
    absurd (c.in-None.ensures.nothing m
    (subst (λ (q : PacketTree). IsReply (init_ack_view c.args.own) c.args.peer_tag q.meaning m)
    (sym (c.in_ok-packet.ensures.answer.value p read)) reply))
