use Rattle.std.proofs.Common.{subst, sym, ℕ, List, Ok}
use Rattle.dcsctp_wire.{specs.Builder.{meaning_with}, specs.Chunk.{all_kept as kept_chunks}, specs.Packet.{IsAccepted, checksum_field, Answer}, proofs.Builders.{built_reads_back}}
use Rattle.dcsctp_wire.proofs.packet.builder.SctpPacketBuilder.build.Goals as goal

pub returns-clause-reads_back : goal.returns-clause-reads_back
returns-clause-reads_back c = λ short chunks holds some readable word policy accepted.
    (let b = c.args.self.now in
    let header = c.hand_out.ensures.width in
    let is = c.hand_out.ensures.bytes in
    subst (λ (bytes : List ℕ). Answer bytes word policy
    (Ok (record {
      meaning = meaning_with b (kept_chunks chunks);
      checksum = checksum_field bytes;
    }))) (sym is)
    (built_reads_back b c.args.checksum word policy chunks c.ranges.checksum.fits header.source
    header.destination header.tag short holds some readable
    (subst (λ (bytes : List ℕ). IsAccepted policy (checksum_field bytes) word) is accepted)))
