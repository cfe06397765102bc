-- A packet as one call reads it: a row for each chunk (RFC 9260 section 3.2), with the numbers that
-- the call for its kind reads.
use Rattle.std.specs.Prelude.{◌≡◌, ◌≤◌, ◌+◌, ◌-◌, ℕ, false, List, Some, None, Ok, Err, length, take, min}
use Rattle.dcsctp_chunk.specs.Data as data_kind
use Rattle.dcsctp_chunk.specs.Sack as sack_kind
use Rattle.dcsctp_chunk.specs.SkippedStreams as skipped_streams
use Rattle.dcsctp_wire.specs.{Chunk.{ChunkTree}, Packet.{PacketTree, PacketFault, Placed, Answer}, declared.packet.sctp_packet.ChecksumPolicy.{ChecksumPolicy}}
use Rattle.dcsctp_wire.specs.InitFields as init_fields
use Rattle.dcsctp_c.specs.{Code.{IsAnswerCode}, Part.{IsHeaderOf, ChunkMeans, IsChunkAt, data_at, HoldsData, sack_at, HoldsSack, init_at, HoldsInit, shutdown_at, forward_at, HoldsForward}, Walk.{AreFrom, MeanEach}}
use Rattle.dcsctp_c.specs.declared.structs.{DcsctpChunk.{DcsctpChunk}, DcsctpData.{DcsctpData}, DcsctpForwardTsn.{DcsctpForwardTsn}, DcsctpInit.{DcsctpInit}, DcsctpPacket.{DcsctpPacket}, DcsctpRow.{DcsctpRow}, DcsctpSack.{DcsctpSack}}

-- ---- a row

-- of a chunk whose value has `n` bytes of numbers, all of them 0
abbrev pub row_after : ℕ → DcsctpChunk → DcsctpRow
row_after n c = record {
  chunk = c;
  rest_offset = c.value_offset + min n c.value_size;
  rest_size = c.value_size - n;
  count = 0;
  duplicate_count = 0;
  tsn = 0;
  a_rwnd = 0;
  initiate_tag = 0;
  mid = 0;
  fsn = 0;
  ppid = 0;
  stream = 0;
  ssn = 0;
  outbound_streams = 0;
  inbound_streams = 0;
  is_unordered = false;
  is_beginning = false;
  is_end = false;
  immediate_ack = false;
}

abbrev pub data_row : DcsctpChunk → DcsctpData → DcsctpRow
data_row c d = record (row_after 0 c) {
  rest_offset = d.payload_offset;
  rest_size = d.payload_size;
  tsn = d.tsn;
  mid = d.mid;
  fsn = d.fsn;
  ppid = d.ppid;
  stream = d.stream;
  ssn = d.ssn;
  is_unordered = d.is_unordered;
  is_beginning = d.is_beginning;
  is_end = d.is_end;
  immediate_ack = d.immediate_ack;
}

abbrev pub sack_row : DcsctpChunk → DcsctpSack → DcsctpRow
sack_row c s = record (row_after 12 c) {
  count = s.block_count;
  duplicate_count = s.duplicate_count;
  tsn = s.cumulative_tsn_ack;
  a_rwnd = s.a_rwnd;
}

abbrev pub init_row : DcsctpChunk → DcsctpInit → DcsctpRow
init_row c i = record (row_after 16 c) {
  tsn = i.initial_tsn;
  a_rwnd = i.a_rwnd;
  initiate_tag = i.initiate_tag;
  outbound_streams = i.outbound_streams;
  inbound_streams = i.inbound_streams;
}

abbrev pub forward_row : DcsctpChunk → DcsctpForwardTsn → DcsctpRow
forward_row c f = record (row_after 4 c) { count = f.stream_count; tsn = f.new_cumulative_tsn }

abbrev pub shutdown_row : DcsctpChunk → ℕ → DcsctpRow
shutdown_row c tsn = record (row_after 4 c) { tsn = tsn }

-- The row has what the call for the chunk's kind reads; or none reads anything, and it has the
-- chunk alone.
pub data IsRow (bytes : List ℕ) (c : DcsctpChunk) (r : DcsctpRow) : Type 0 where
  user_data : (tree : data_kind.Tree) (d : DcsctpData) → data_at bytes c ≡ Some tree
      → HoldsData bytes c tree d → r ≡ data_row c d → IsRow bytes c r
  sack : (tree : sack_kind.Tree) (s : DcsctpSack) → sack_at bytes c ≡ Some tree
      → HoldsSack tree s → r ≡ sack_row c s → IsRow bytes c r
  init : (tree : init_fields.Tree) (i : DcsctpInit) → init_at bytes c ≡ Some tree
      → HoldsInit tree i → r ≡ init_row c i → IsRow bytes c r
  forward_tsn : (tree : skipped_streams.Tree) (f : DcsctpForwardTsn)
      → forward_at bytes c ≡ Some tree → HoldsForward tree f → r ≡ forward_row c f
      → IsRow bytes c r
  shutdown : (tsn : ℕ) → shutdown_at bytes c ≡ Some tsn → r ≡ shutdown_row c tsn
      → IsRow bytes c r
  other : data_at bytes c ≡ None → sack_at bytes c ≡ None → init_at bytes c ≡ None
      → forward_at bytes c ≡ None → shutdown_at bytes c ≡ None → r ≡ row_after 0 c
      → IsRow bytes c r

-- the row of the chunk at an offset
pub record IsRowAt (bytes : List ℕ) (offset : ℕ) (r : DcsctpRow) : Type 0 where
  pub chunk : IsChunkAt bytes offset r.chunk
  pub row : IsRow bytes r.chunk r

-- ---- the rows of a packet

-- those of the chunks from its first on
abbrev pub AreRows : List ℕ → List DcsctpRow → Type 0
AreRows bytes rows = AreFrom (IsRowAt bytes) (λ r. r.chunk.next) 12 rows

abbrev pub MeanChunks : List ℕ → List DcsctpRow → List ChunkTree → Type 0
MeanChunks bytes rows trees = MeanEach (λ r. ChunkMeans bytes r.chunk) rows trees

-- What was read is this packet: its header, how many chunks it has, and their rows; no fault.
pub record IsRead (bytes : List ℕ) (p : PacketTree) (packet : DcsctpPacket)
    (rows : List DcsctpRow) : Type 0 where
  pub header : IsHeaderOf p packet.header
  pub count : packet.chunk_count ≡ length p.meaning.chunks
  pub means : MeanChunks bytes (take packet.chunk_count rows) p.meaning.chunks
  pub end : packet.fault_offset ≡ length bytes

-- What was read of these bytes: the code of the grammar's answer; the packet and its rows, or the
-- place of the fault and no rows.
pub record IsReading (bytes : List ℕ) (word : ℕ) (policy : ChecksumPolicy)
    (packet : DcsctpPacket) (rows : List DcsctpRow) : Type 0 where
  pub code : IsAnswerCode bytes word policy packet.code
  pub read : (p : PacketTree) → Answer bytes word policy (Ok p) → IsRead bytes p packet rows
  pub are_rows : AreRows bytes (take packet.chunk_count rows)
  pub place : (e : PacketFault) (n : ℕ) → Placed bytes word policy (Err (e, n))
      → (packet.chunk_count ≡ 0) × (packet.fault_offset ≡ n)
  pub within : packet.fault_offset ≤ length bytes
