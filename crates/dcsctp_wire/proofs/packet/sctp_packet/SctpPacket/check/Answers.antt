use Rattle.std.proofs.{Common.{Ok, Err, ap}, lemmas.Result.{err_from_is_err_and}}
use Rattle.dcsctp_tlv.specs.declared.reader.Counts.{Counts}
use Rattle.dcsctp_wire.proofs.{PacketLaws.{packet_parts}, Lenient.{lenient_packet}, PacketChecks.{check_answers, check_exactly}}
use Rattle.dcsctp_wire.proofs.packet.sctp_packet.SctpPacket.check.Goals as goal

pub returns-in_err-counts-clause-answer : goal.returns-in_err-counts-clause-answer
returns-in_err-counts-clause-answer c =
    let bytes = c.args.bytes.now in
    let word = c.args.checksum in
    let policy = c.args.policy.now in
    let found = c.in_err-counts.field-0.0 in
    let p = err_from_is_err_and c.from_residual.result c.from_residual.ensures.1 in
    rw (p.1, p.2) (check_exactly bytes word policy (λ i. (c.type_inv.bytes i).fits)
    (Err found.fault) (check_answers bytes word policy found c.in_err-counts.ensures.found))

pub returns-clause-answer : goal.returns-clause-answer
returns-clause-answer c =
    let found = c.in_ok-counts.ensures.found in
    check_exactly c.args.bytes.now c.args.checksum c.args.policy.now
    (λ i. (c.type_inv.bytes i).fits) (Ok c.in_ok-counts.counts.parts)
    (found.0, found.1, ap (λ (n : Counts). n.parts) found.2)

pub returns-clause-few : goal.returns-clause-few
returns-clause-few c =
    let bytes = c.args.bytes.now in
    let found = c.in_ok-counts.ensures.found in
    rw (ap (λ (n : Counts). n.parts) found.2) (packet_parts bytes found.0
    (lenient_packet c.args.policy.now.strict_padding bytes found.0 found.1.1))
