-- DATA that is written from where its payload lies (RFC 9260 section 3.3.1).
use Rattle.std.specs.Prelude.{not}
use Rattle.dcsctp_types.specs.StreamKey.{stream_of, is_ordered_key}
use Rattle.dcsctp_chunk.specs.Data.{Tree}
use Rattle.dcsctp_buffer.specs.declared.data.BorrowedData.{BorrowedData}

-- the chunk as plain data; MID and FSN aren't carried
abbrev pub view : BorrowedData → Tree
view d = record {
  tsn = d.tsn.0;
  user_data = record {
    unordered = not (is_ordered_key d.stream_key);
    stream = (stream_of d.stream_key).0;
    ssn = d.ssn.0;
    mid = 0;
    fsn = 0;
    ppid = d.ppid.0;
    payload = d.payload.now;
    beginning = d.is_beginning;
    ending = d.is_end;
  };
  immediate_ack = d.immediate_ack;
}
