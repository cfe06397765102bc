use Rattle.std.proofs.{Common.{arith, rules, Ok, Err, List, ℕ, subst, IsTrue}, lemmas.List.{take_rest}}
use Rattle.dcsctp_tlv.specs.{declared.reader.Counts.{Counts}, Reading.{Answers, locating, ListAnswer, Counted, counts}}
use Rattle.dcsctp_wire.{specs.Chunk.{chunks, parts as chunk_parts}, specs.Packet.{IsAccepted, Size, Checksum, packet_with}, proofs.PacketChecks.{packet_is}, proofs.PacketPlaces.{chunk_fault, fault_there}}
use Rattle.dcsctp_wire.proofs.packet.sctp_packet.check_packet.Goals as goal

pub returns-in-Err-clause-found : goal.returns-in-Err-clause-found
returns-in-Err-clause-found c =
    let bytes = c.args.bytes.now in
    let policy = c.args.policy.now in
    let yes : IsTrue c.accepts.result = search rules in
    let accepted = subst (λ (k : ℕ). IsAccepted policy k c.args.checksum)
    (rw (take_rest bytes 8) at c.read_u32_be.ensures) (c.accepts.ensures.0 yes) in
    chunk_fault bytes c.args.checksum policy c.in-Err.found
    (record { size = record { low = omega arith; high = omega arith }; accepted = accepted })
    (subst (λ (b : List ℕ). Answers locating (λ (n : Counts). n)
    (Counted (counts chunk_parts) (ListAnswer (chunks policy.strict_padding) b)) (Err c.in-Err.found))
    (take_rest bytes 12) c.in-Err.ensures.found)

pub returns-then-bytes-lt-MIN_PACKET_SIZE-clause-found
    : goal.returns-then-bytes-lt-MIN_PACKET_SIZE-clause-found
returns-then-bytes-lt-MIN_PACKET_SIZE-clause-found c =
    fault_there c.args.bytes.now c.args.checksum c.args.policy.now Size _ (search rules)

pub returns-then-not-accepts-clause-found : goal.returns-then-not-accepts-clause-found
returns-then-not-accepts-clause-found c =
    fault_there c.args.bytes.now c.args.checksum c.args.policy.now Checksum _ (search rules)

pub returns-in-Ok-clause-found : goal.returns-in-Ok-clause-found
returns-in-Ok-clause-found c =
    let bytes = c.args.bytes.now in
    let policy = c.args.policy.now in
    let yes : IsTrue c.accepts.result = search rules in
    let accepted = subst (λ (k : ℕ). IsAccepted policy k c.args.checksum)
    (rw (take_rest bytes 8) at c.read_u32_be.ensures) (c.accepts.ensures.0 yes) in
    let found = subst (λ (b : List ℕ). Answers locating (λ (n : Counts). n)
    (Counted (counts chunk_parts) (ListAnswer (chunks policy.strict_padding) b)) (Ok c.in-Ok.counts))
    (take_rest bytes 12) c.in-Ok.ensures.found in (
      packet_with bytes found.0,
      packet_is bytes c.args.checksum policy found.0
          (record { size = record { low = omega arith; high = omega arith }; accepted = accepted })
          found.1,
      found.2,
    )
