use Rattle.std.proofs.Common.{Ok, refl, arith, le_refl}
use Rattle.dcsctp_borrowed.proofs.PacketRefs.{chunks_lent}
use Rattle.dcsctp_c.{specs.Code.{policy_of}, proofs.AnswerCodes.{answered, located_code, located_place, not_both, no_packet}}
use Rattle.dcsctp_c.proofs.read.dcsctp_read.Goals as goal

pub write_rows-packet-requires-clause-size : goal.write_rows-packet-requires-clause-size
write_rows-packet-requires-clause-size c =
    omega (arith, c.in-None.ensures.answer.answers.1.0.size.low)

pub write_rows-packet-requires-clause-meant : goal.write_rows-packet-requires-clause-meant
write_rows-packet-requires-clause-meant c =
    let found = c.in-None.ensures.answer.answers in (
      found.0.meaning.chunks,
      chunks_lent c.args.bytes.now c.args.word c.checksum_policy.result found.0 found.1,
    )

pub returns-in-None-clause-code : goal.returns-in-None-clause-code
returns-in-None-clause-code c = refl

pub returns-in-None-clause-after : goal.returns-in-None-clause-after
returns-in-None-clause-after c = c.write_rows-packet.ensures.after

pub returns-in-None-clause-faulty : goal.returns-in-None-clause-faulty
returns-in-None-clause-faulty c some = absurd (some refl)

pub returns-in-Some-clause-code : goal.returns-in-Some-clause-code
returns-in-Some-clause-code c = refl

pub returns-in-Some-clause-after : goal.returns-in-Some-clause-after
returns-in-Some-clause-after c = refl

pub returns-in-Some-clause-faulty : goal.returns-in-Some-clause-faulty
returns-in-Some-clause-faulty c some = refl

pub returns-in-None-clause-reading : goal.returns-in-None-clause-reading
returns-in-None-clause-reading c =
    let bytes = c.args.bytes.now in
    let word = c.args.word in
    let policy = policy_of c.args.policy.now in
    let found = c.in-None.ensures.answer.answers in
    record {
      code = answered bytes word c.checksum_policy.result policy c.checksum_policy.ensures
          (Ok found.0) 0 (λ i. (c.type_inv.bytes i).fits) found.1 refl;
      read = λ p answer.
          (let all = c.write_rows-packet.ensures.means p.meaning.chunks
          (chunks_lent bytes word policy p answer) in record {
            header = c.dcsctp_header.ensures.means word policy p answer;
            count = all.0;
            means = all.1;
            end = refl;
          });
      are_rows = c.write_rows-packet.ensures.rows;
      place = λ e n place. absurd (not_both bytes word c.checksum_policy.result policy
          c.checksum_policy.ensures found.0 e (λ i. (c.type_inv.bytes i).fits) found.1 (n, place));
      within = le_refl _;
    }

pub returns-in-Some-clause-reading : goal.returns-in-Some-clause-reading
returns-in-Some-clause-reading c =
    let bytes = c.args.bytes.now in
    let word = c.args.word in
    let policy = policy_of c.args.policy.now in
    let found = c.in-Some.found in
    let answers = c.in-Some.ensures.answer.answers in
    record {
      code = located_code bytes word c.checksum_policy.result policy c.checksum_policy.ensures
          found c.code_of-code.result (λ i. (c.type_inv.bytes i).fits) answers
          c.code_of-code.ensures.fault;
      read = λ p answer. absurd (no_packet bytes word c.checksum_policy.result policy
          c.checksum_policy.ensures found (λ i. (c.type_inv.bytes i).fits) answers (p, answer));
      are_rows = tt;
      place = λ e n place. (
        refl,
        located_place bytes word c.checksum_policy.result policy c.checksum_policy.ensures found e
            n c.in-Some.ensures.answer place,
      );
      within = c.in-Some.ensures.within;
    }
