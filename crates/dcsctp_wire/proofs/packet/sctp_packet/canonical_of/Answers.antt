use Rattle.std.proofs.Common.{ap, ◌∙◌, ◌≡◌, ◌+◌, ℕ, replicate}
use Rattle.dcsctp_wire.{specs.Chunk.{views}, specs.Packet.{meaning_view}, specs.Canonical.{padded_size}, proofs.Canonicals.{length-canonical}}
use Rattle.dcsctp_wire.proofs.packet.sctp_packet.canonical_of.Goals as goal

pub write_over_zeros-requires-clause-zeros : goal.write_over_zeros-requires-clause-zeros
write_over_zeros-requires-clause-zeros c =
    let n : c.canonical_size.result ≡ 12 + padded_size (views c.args.packet.now.chunks.items) =
    c.canonical_size.ensures ∙ length-canonical (meaning_view c.args.packet.now) in
    c.deref_mut.ensures.value ∙ c.in_ok-bytes.ensures.items ∙ ap (λ (k : ℕ). replicate k 0) n
