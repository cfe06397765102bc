-- A SACK that is written from where its lists lie (RFC 9260 section 3.3.4).
use Rattle.dcsctp_chunk.specs.Sack.{Tree}
use Rattle.dcsctp_buffer.specs.declared.sack.BorrowedSack.{BorrowedSack}

-- the chunk as plain data
abbrev pub view : BorrowedSack → Tree
view s = record {
  tsn = s.cumulative_tsn_ack.0;
  a_rwnd = s.a_rwnd;
  blocks = s.gap_ack_blocks.now;
  duplicates = s.duplicate_tsns.now;
}
