use Rattle.dcsctp_buffer.proofs.data.BorrowedDataWritableChunk.write_to.Goals as goal

pub returns-clause-written : goal.returns-clause-written
returns-clause-written c =
    rw (c.four_flags-flags.ensures, c.is_unordered.ensures, c.fixed.ensures.bytes) at
    c.put_data.ensures
