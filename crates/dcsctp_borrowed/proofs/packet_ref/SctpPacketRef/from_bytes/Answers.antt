use Rattle.std.proofs.{Common.{Ok, Err}, lemmas.Result.{err_from_is_err_and}}
use Rattle.dcsctp_borrowed.proofs.PacketRefs.{chunks_lent, refers, referred_exactly}
use Rattle.dcsctp_borrowed.proofs.packet_ref.SctpPacketRef.from_bytes.Goals as goal

pub returns-in_err-check-clause-answer : goal.returns-in_err-check-clause-answer
returns-in_err-check-clause-answer c =
    let p = err_from_is_err_and c.from_residual.result c.from_residual.ensures.1 in
    rw (p.1, p.2) (referred_exactly c.args.bytes.now c.args.checksum c.args.policy.now
    (λ i. (c.type_inv.bytes i).fits) (Err c.in_err-check.field-0.0)
    c.in_err-check.ensures.answer.answers)

pub of_packet-requires-clause-meant : goal.of_packet-requires-clause-meant
of_packet-requires-clause-meant c =
    let found = c.in_ok-check.ensures.answer.answers in (
      found.0.meaning.chunks,
      chunks_lent c.args.bytes.now c.args.checksum c.args.policy.now found.0
          found.1,
    )

pub returns-clause-answer : goal.returns-clause-answer
returns-clause-answer c =
    let found = c.in_ok-check.ensures.answer.answers in
    referred_exactly c.args.bytes.now c.args.checksum c.args.policy.now
    (λ i. (c.type_inv.bytes i).fits) (Ok c.of_packet.result)
    ((found.0, found.1), c.of_packet.ensures)

pub returns-clause-refers : goal.returns-clause-refers
returns-clause-refers c p answer =
    rw c.of_packet.ensures (refers c.args.bytes.now c.args.checksum c.args.policy.now p answer)
