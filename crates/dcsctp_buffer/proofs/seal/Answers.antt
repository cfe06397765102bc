use Rattle.dcsctp_buffer.proofs.Buffers.{sealed_reads, sealed_means}
use Rattle.dcsctp_buffer.proofs.seal.Goals as goal

pub returns-clause-reads : goal.returns-clause-reads
returns-clause-reads c sealed m policy held formed =
    sealed_reads c.args.buffer.now c.put_u32.new.output c.args.size c.packet_word-word.result m
    policy
    c.packet_word-word.type_inv c.if-size-lt-COMMON_HEADER_SIZE.false
    c.packet_word-word.ensures.value c.put_u32.ensures held formed

pub returns-clause-means : goal.returns-clause-means
returns-clause-means c sealed m us policy held some read =
    sealed_means c.args.buffer.now c.put_u32.new.output c.args.size c.packet_word-word.result m us
    policy
    c.packet_word-word.type_inv c.if-size-lt-COMMON_HEADER_SIZE.false
    c.packet_word-word.ensures.value c.put_u32.ensures held some read
