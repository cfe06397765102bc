use Rattle.std.proofs.Common.{◌≡◌, ◌∙◌, ℕ, List, Ok, length, take, ap, sym, subst, arith, take_all}
use Rattle.dcsctp_crc32c.specs.Checksum.{packet_word}
use Rattle.dcsctp_wire.specs.Packet.{Answer, equal}
use Rattle.dcsctp_buffer.{specs.Buffer.{kept}, proofs.Buffers.{sealed_reads, sealed_means}}
use Rattle.dcsctp_c.proofs.in_place.dcsctp_seal.Goals as goal

pub returns-clause-sealed : goal.returns-clause-sealed
returns-clause-sealed c room =
    let apart = c.set_checksum_word.ensures.apart in
    c.set_checksum_word.ensures.field
    ∙ c.packet_word-word.ensures.field_apart c.set_checksum_word.new.packet apart.0 apart.1

pub returns-clause-means : goal.returns-clause-means
returns-clause-means c word first later p answer strict =
    let bytes = c.set_checksum_word.new.packet in
    let apart = c.set_checksum_word.ensures.apart in
    let own : c.packet_word-word.result ≡ packet_word bytes =
    c.packet_word-word.ensures.field_apart bytes apart.0 apart.1 in
    subst (λ (n : ℕ). Answer bytes (packet_word bytes) later (Ok (record p { checksum = n }))) own
    (c.set_checksum_word.ensures.means p word (packet_word bytes) first later answer
    (equal own) strict)

pub returns-clause-reads : goal.returns-clause-reads
returns-clause-reads c room m policy held formed =
    let old = c.args.packet.now in
    let new = c.set_checksum_word.new.packet in
    let whole : take (length old) old ≡ old = take_all (length old) old (omega arith) in
    let sealed : take (length old) new ≡ new =
    take_all (length old) new (omega (arith, c.set_checksum_word.auto.packet)) in
    subst (λ (bytes : List ℕ). Answer bytes (packet_word bytes) policy
    (Ok (record { meaning = kept m; checksum = packet_word bytes }))) sealed
    (sealed_reads old new (length old) c.packet_word-word.result m policy
    c.packet_word-word.type_inv room
    (c.packet_word-word.ensures.value ∙ ap packet_word (sym whole))
    c.set_checksum_word.ensures.bytes held formed)

pub returns-clause-reads_as : goal.returns-clause-reads_as
returns-clause-reads_as c room m us policy held some read =
    let old = c.args.packet.now in
    let new = c.set_checksum_word.new.packet in
    let whole : take (length old) old ≡ old = take_all (length old) old (omega arith) in
    let sealed : take (length old) new ≡ new =
    take_all (length old) new (omega (arith, c.set_checksum_word.auto.packet)) in
    subst (λ (bytes : List ℕ). Answer bytes (packet_word bytes) policy
    (Ok (record { meaning = record m { chunks = us }; checksum = packet_word bytes }))) sealed
    (sealed_means old new (length old) c.packet_word-word.result m us policy
    c.packet_word-word.type_inv room
    (c.packet_word-word.ensures.value ∙ ap packet_word (sym whole))
    c.set_checksum_word.ensures.bytes held some read)
