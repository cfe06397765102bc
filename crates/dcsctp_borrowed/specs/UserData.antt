-- User data that is read in its bytes: of DATA (RFC 9260 section 3.3.1) and of I-DATA (RFC 8260
-- section 2.1).
use Rattle.std.specs.{Prelude.{◌==◌, ℕ, List, not, if◌then◌else◌, Option, Some, None}, Result.{result_ok}}
use Rattle.dcsctp_types.specs.StreamKey.{is_ordered_key, stream_of}
use Rattle.dcsctp_chunk.specs.Data.{Tree}
use Rattle.dcsctp_chunk.specs.DataChunk as data_kind
use Rattle.dcsctp_chunk.specs.IDataChunk as idata_kind
use Rattle.dcsctp_wire.specs.Chunk.{ChunkTree, Data, IData}
use Rattle.dcsctp_borrowed.specs.declared.user_data.UserData.{UserData}

-- the chunk as plain data
abbrev pub user_data_view : UserData → Tree
user_data_view d = record {
  tsn = d.tsn.0;
  user_data = record {
    unordered = not (is_ordered_key d.stream_key);
    stream = (stream_of d.stream_key).0;
    ssn = d.ssn.0;
    mid = d.mid.0;
    fsn = d.fsn.0;
    ppid = d.ppid.0;
    payload = d.payload.now;
    beginning = d.is_beginning;
    ending = d.is_end;
  };
  immediate_ack = d.immediate_ack;
}

-- the tree of DATA or I-DATA; nothing of any other chunk
abbrev pub data_of : ChunkTree → Option Tree
data_of (Data c) = Some c
data_of (IData c) = Some c
data_of t = None

-- What a chunk of this type, with these flags and this value, reads as; nothing where it has
-- another type, or its value is too short.
abbrev pub read_user_data : ℕ → ℕ → List ℕ → Option Tree
read_user_data typ flags value =
    if typ == 0 then result_ok (data_kind.read flags value) else
    if typ == 64 then result_ok (idata_kind.read flags value) else
    None
