use Rattle.std.proofs.Common.{ℕ, ◌≡◌, ◌∙◌, Ok, ap, subst, sym}
use Rattle.dcsctp_crc32c.specs.Checksum.{packet_word}
use Rattle.dcsctp_wire.specs.Builder.{meaning_with}
use Rattle.dcsctp_wire.specs.Chunk.{all_kept as kept_chunks}
use Rattle.dcsctp_wire.specs.Packet.{Answer, equal, checksum_field}
use Rattle.test_callers.specs.Sealed.{verifying}
use Rattle.test_callers.proofs.Sealing.{field_sealed}
use Rattle.test_callers.proofs.sealed.seal.Goals as goal

pub returns-clause-reads : goal.returns-clause-reads
returns-clause-reads c on limit chunks held some readable =
    let b = c.args.builder.now in
    let word = c.packet_word-word.result in
    let bytes = c.build.result.items in
    let is : word ≡ packet_word b.bytes =
    c.packet_word-word.ensures.value ∙ ap packet_word c.as_bytes.ensures in
    let field : checksum_field bytes ≡ packet_word bytes =
    ap checksum_field c.build.ensures.bytes ∙ field_sealed b word chunks some held on is
    c.packet_word-word.type_inv
    ∙ ap packet_word (sym c.build.ensures.bytes) in
    subst (λ (n : ℕ). Answer bytes (packet_word bytes) verifying
    (Ok (record { meaning = meaning_with b (kept_chunks chunks); checksum = n }))) field
    (c.build.ensures.reads_back limit chunks held some readable (packet_word bytes) verifying
    (equal field))
