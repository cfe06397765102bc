use Rattle.std.proofs.Common.{arith}
use Rattle.dump_capture.specs.Found.{packet_of}
use Rattle.dump_command.proofs.PacketCounts.{counted_accepted, counted_refused, found_accepted, found_refused}
use Rattle.dump_command.proofs.counts.Counts.count_packet.Goals as goal

pub returns-in-Ok-clause-counts : goal.returns-in-Ok-clause-counts
returns-in-Ok-clause-counts c =
    counted_accepted c.args.options.now c.args.self.now c.count_checksum.new.self _
    (packet_of c.args.found.now) c.packet_word-word.result c.increase-in-Ok.new.count
    c.policy.result c.in-Ok.packet (omega (arith, c.if-bytes-found.false))
    c.packet_word-word.ensures.value c.policy.ensures c.in-Ok.ensures.answer
    c.count_checksum.ensures c.increase-in-Ok.ensures c.count_chunks.ensures

pub returns-in-Err-clause-counts : goal.returns-in-Err-clause-counts
returns-in-Err-clause-counts c =
    counted_refused c.args.options.now c.args.self.now c.count_checksum.new.self _
    (packet_of c.args.found.now) c.packet_word-word.result c.policy.result c.in-Err.first
    (omega (arith, c.if-bytes-found.false)) c.packet_word-word.ensures.value c.policy.ensures
    c.in-Err.ensures.answer c.count_checksum.ensures c.count_refused.ensures

pub returns-in-Ok-clause-verdict : goal.returns-in-Ok-clause-verdict
returns-in-Ok-clause-verdict c =
    found_accepted c.args.options.now (packet_of c.args.found.now) c.packet_word-word.result
    c.policy.result c.in-Ok.packet (omega (arith, c.if-bytes-found.false))
    c.packet_word-word.ensures.value c.policy.ensures c.in-Ok.ensures.answer

pub returns-in-Err-clause-verdict : goal.returns-in-Err-clause-verdict
returns-in-Err-clause-verdict c =
    found_refused c.args.options.now (packet_of c.args.found.now) c.packet_word-word.result
    c.policy.result c.in-Err.first (omega (arith, c.if-bytes-found.false))
    c.packet_word-word.ensures.value c.policy.ensures c.in-Err.ensures.answer
