use Rattle.std.{proofs.Common.{◌-◌, ◌*◌, ◌/◌, ◌≤◌, length}, specs.List.{AllByRecursion}}
use Rattle.dcsctp_wire.{specs.WellFormed.{IsWellFormed}, specs.Account.{KeepsTexts, KeepsSize, HasOwnTexts, node_count}, proofs.PacketLaws.{packet_formed, packet_size, packet_texts, packet_parts, reads_only}, specs.Packet.{packet_view}, specs.Canonical.{padded_size}, proofs.Bounded.{packet_bound}, proofs.PacketChecks.{read_exactly}}
use Rattle.dcsctp_wire.proofs.packet.sctp_packet.SctpPacket.from_bytes.Goals as goal

pub returns-clause-formed : goal.returns-clause-formed
returns-clause-formed c =
    let bytes = c.args.bytes.now in
    reads_only (λ p. IsWellFormed p.meaning) bytes c.args.checksum c.args.policy.now
    c.read_packet.result (packet_formed bytes) c.read_packet.ensures.answer

pub returns-clause-size : goal.returns-clause-size
returns-clause-size c = λ kept.
    (let bytes = c.args.bytes.now in
    reads_only (λ p. KeepsSize bytes p.meaning) bytes c.args.checksum c.args.policy.now
    c.read_packet.result (λ p size m. packet_size bytes p size m kept)
    c.read_packet.ensures.answer)

pub returns-clause-texts : goal.returns-clause-texts
returns-clause-texts c =
    let bytes = c.args.bytes.now in
    reads_only (λ p. AllByRecursion HasOwnTexts p.meaning.chunks → KeepsTexts bytes) bytes
    c.args.checksum c.args.policy.now c.read_packet.result (λ p size m. packet_texts bytes p m)
    c.read_packet.ensures.answer

pub returns-clause-nodes : goal.returns-clause-nodes
returns-clause-nodes c =
    let bytes = c.args.bytes.now in
    reads_only (λ p. node_count p.meaning ≤ (length bytes - 12) / 4) bytes c.args.checksum
    c.args.policy.now c.read_packet.result (λ p size m. packet_parts bytes p m)
    c.read_packet.ensures.answer

pub returns-clause-bound : goal.returns-clause-bound
returns-clause-bound c =
    let bytes = c.args.bytes.now in
    reads_only (λ p. padded_size p.meaning.chunks ≤ 6 * (length bytes - 12)) bytes c.args.checksum
    c.args.policy.now c.read_packet.result (λ p size m. packet_bound bytes p m)
    c.read_packet.ensures.answer

pub returns-clause-answer : goal.returns-clause-answer
returns-clause-answer c = read_exactly c.args.bytes.now c.args.checksum c.args.policy.now
    (λ i. (c.type_inv.bytes i).fits) packet_view c.read_packet.result c.read_packet.ensures.answer
    c.read_packet.ensures.memory
