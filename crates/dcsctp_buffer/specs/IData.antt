-- I-DATA that is written from where its payload lies (RFC 8260 section 2.1).
use Rattle.std.specs.Prelude.{not}
use Rattle.dcsctp_types.specs.StreamKey.{stream_of, is_ordered_key}
use Rattle.dcsctp_chunk.specs.Data.{Tree}
use Rattle.dcsctp_buffer.specs.declared.idata.BorrowedIData.{BorrowedIData}

-- the chunk as plain data; the SSN isn't carried
abbrev pub view : BorrowedIData → Tree
view d = record {
  tsn = d.tsn.0;
  user_data = record {
    unordered = not (is_ordered_key d.stream_key);
    stream = (stream_of d.stream_key).0;
    ssn = 0;
    mid = d.mid.0;
    fsn = d.fsn.0;
    ppid = d.ppid.0;
    payload = d.payload.now;
    beginning = d.is_beginning;
    ending = d.is_end;
  };
  immediate_ack = d.immediate_ack;
}
