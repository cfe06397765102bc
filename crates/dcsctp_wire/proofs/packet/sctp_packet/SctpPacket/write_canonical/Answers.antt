use Rattle.std.proofs.Common.{ap, ◌∙◌, ◌≡◌, ◌+◌, ℕ, length, replicate}
use Rattle.dcsctp_wire.{specs.Chunk.{views}, specs.Packet.{meaning_view}, specs.Canonical.{padded_size}, proofs.Canonicals.{length-canonical}}
use Rattle.dcsctp_wire.proofs.packet.sctp_packet.SctpPacket.write_canonical.Goals as goal

pub write_over_zeros-requires-clause-zeros : goal.write_over_zeros-requires-clause-zeros
write_over_zeros-requires-clause-zeros c =
    let n : length c.args.output.now ≡ 12 + padded_size (views c.args.self.now.chunks.items) =
    c.requires.size ∙ length-canonical (meaning_view c.args.self.now) in
    c.fill.ensures.after (λ y h. h) ∙ ap (λ (k : ℕ). replicate k 0) n
