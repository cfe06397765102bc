-- The parts of a packet as a C program reads them: offsets into its bytes, and numbers.
use Rattle.std.specs.{Prelude.{◌≡◌, ◌+◌, ◌-◌, ◌≤◌, ◌<◌, ◌==◌, ◌||◌, ◌&&◌, ℕ, Bool, true, false, List, [], ◌∷◌, if◌then◌else◌, nat_le, Option, Some, None, length, take, drop, slice_index, slice_get}, Option.{option_and_then, unwrap_or}}
use Rattle.dcsctp_tlv.specs.{Frame.{lenient, frame_value, frame_rest}, Level.{Row, Level, MeansTrees}, Number.{number32}, Parameter.{ParameterTree, parameters}}
use Rattle.dcsctp_cause.specs.Cause.{CauseTree, causes}
use Rattle.dcsctp_chunk.specs.{Cover.{AreValid}, declared.sack_chunk.GapAckBlock.{GapAckBlock}}
use Rattle.dcsctp_chunk.specs.Data as data_kind
use Rattle.dcsctp_chunk.specs.Sack as sack_kind
use Rattle.dcsctp_chunk.specs.SkippedStreams as skipped_streams
use Rattle.dcsctp_wire.specs.{Chunk.{ChunkTree, Init, InitAck, Shutdown, chunks, chunk_row}, Packet.{PacketTree, header_of}, declared.packet.common_header.CommonHeader.{CommonHeader}}
use Rattle.dcsctp_wire.specs.InitFields as init_fields
use Rattle.dcsctp_borrowed.specs.{RawCauses.{cause_bytes, causes_of}, RawParameters.{parameter_bytes, parameters_of}, Sack.{read_sack}, SkippedStreams.{read_forward}, UserData.{read_user_data}}
use Rattle.dcsctp_c.specs.declared.structs.{DcsctpChunk.{DcsctpChunk}, DcsctpData.{DcsctpData}, DcsctpForwardTsn.{DcsctpForwardTsn}, DcsctpHeader.{DcsctpHeader}, DcsctpInit.{DcsctpInit}, DcsctpSack.{DcsctpSack}, DcsctpSkippedStream.{DcsctpSkippedStream}}

-- ---- what is read

-- what a call read, as plain data and as its struct; or there is nothing, and none was read
abbrev pub Reads : {T S : Type 0} → (T → S → Type 0) → Option T → Option S → Type 0
Reads Holds (Some tree) (Some struct) = Holds tree struct
Reads Holds None None = Unit {0}
Reads Holds (Some tree) None = ⊥
Reads Holds None (Some struct) = ⊥

-- The call is done, and its output holds what there is to read; or there is nothing, and the output
-- stays.
abbrev pub ReadsInto : {T S : Type 0} → (T → S → Type 0) → Option T → S → S → Bool → Type 0
ReadsInto Holds (Some tree) old new done = (done ≡ true) × Holds tree new
ReadsInto Holds None old new done = (done ≡ false) × (new ≡ old)

-- it is what was read
abbrev pub Holds : {T : Type 0} → T → T → Type 0
Holds tree struct = struct ≡ tree

-- ---- the common header (RFC 9260 section 3.1)

abbrev pub header_at : List ℕ → Option CommonHeader
header_at bytes = if nat_le 12 (length bytes) then Some (header_of bytes) else None

abbrev pub HoldsHeader : CommonHeader → DcsctpHeader → Type 0
HoldsHeader header h =
    (h.source_port ≡ header.source_port) × (h.destination_port ≡ header.destination_port)
    × (h.verification_tag ≡ header.verification_tag) × (h.checksum ≡ header.checksum)

-- the header of a packet
pub record IsHeaderOf (p : PacketTree) (h : DcsctpHeader) : Type 0 where
  pub source : h.source_port ≡ p.meaning.source
  pub destination : h.destination_port ≡ p.meaning.destination
  pub tag : h.verification_tag ≡ p.meaning.tag
  pub checksum : h.checksum ≡ p.checksum

-- ---- an item of a list (RFC 9260 sections 3.2, 3.2.1 and 3.3.10)

-- `size` bytes from an offset on
abbrev pub part : List ℕ → ℕ → ℕ → List ℕ
part bytes offset size = take size (drop offset bytes)

-- the same; nothing unless all of them are there
abbrev pub part_at : List ℕ → ℕ → ℕ → Option (List ℕ)
part_at bytes offset size =
    if nat_le (offset + size) (length bytes) then Some (part bytes offset size) else None

-- the bytes up to the end of a part; nothing unless all of the part is there
abbrev pub bytes_to : List ℕ → ℕ → ℕ → Option (List ℕ)
bytes_to bytes offset size =
    if nat_le (offset + size) (length bytes) then Some (take (offset + size) bytes) else None

-- there is a value, which means this tree
abbrev pub ValueMeans : {T : Type 0} → Row T → Option (List ℕ) → T → Type 0
ValueMeans row found tree =
    (value : List ℕ) × (found ≡ Some value) × row.means value tree

-- The item that begins at an offset of a list: where its value is, and where the next item. The
-- list is said by its bytes from each offset on, and by where it ends.
pub record IsItemAt (from : ℕ → List ℕ) (end offset start : ℕ) (found : Option (List ℕ))
    (further : ℕ) : Type 0 where
  pub place : start ≡ offset + 4
  pub value : found ≡ Some (frame_value (from offset))
  pub next : from further ≡ frame_rest (from offset)
  pub after : offset < further
  pub within : further ≤ end

-- Whatever trees the bytes mean, the value means the first of them, and the bytes from the next
-- item on mean the others.
abbrev pub MeansFirst : {T : Type 0} → Level T → Row T → List ℕ → Option (List ℕ) → List ℕ
    → Type 0
MeansFirst {T} level row bytes found left =
    (all : List T) → MeansTrees level bytes all
    → (first : T) × (others : List T) × (all ≡ first ∷ others)
    × ValueMeans row found first × MeansTrees level left others

-- ---- chunks (RFC 9260 section 3.2)

-- a chunk's value, where its offset and its size say
abbrev pub value_at : List ℕ → DcsctpChunk → Option (List ℕ)
value_at bytes c = part_at bytes c.value_offset c.value_size

-- its value means this tree, to a reader that ignores padding
abbrev pub ChunkMeans : List ℕ → DcsctpChunk → ChunkTree → Type 0
ChunkMeans bytes c tree = ValueMeans (chunk_row lenient c.typ c.flags) (value_at bytes c) tree

-- The value's bytes from an offset on; none where the offset lies before the value, or there is no
-- value.
abbrev pub value_from : List ℕ → DcsctpChunk → ℕ → List ℕ
value_from bytes c offset =
    if nat_le c.value_offset offset
    then drop (offset - c.value_offset) (unwrap_or (value_at bytes c) []) else []

-- The parameters or the error causes in a value of this type; none where it has no place for them.
abbrev pub list_bytes : ℕ → List ℕ → List ℕ
list_bytes typ value = unwrap_or (parameter_bytes typ value) (unwrap_or (cause_bytes typ value) [])

-- The bytes mean the chunk's parameters, or its error causes; they are none where it can have
-- neither.
pub record IsListOf (tree : ChunkTree) (bytes : List ℕ) : Type 0 where
  pub of_parameters : (ps : List ParameterTree) → parameters_of tree ≡ Some ps
      → MeansTrees (parameters lenient) bytes ps
  pub of_causes : (cs : List CauseTree) → causes_of tree ≡ Some cs
      → MeansTrees (causes lenient) bytes cs
  pub none : parameters_of tree ≡ None → causes_of tree ≡ None → bytes ≡ []

-- the chunk that begins at an offset
pub record IsChunkAt (bytes : List ℕ) (offset : ℕ) (c : DcsctpChunk) : Type 0 where
  pub typ : c.typ ≡ slice_index (drop offset bytes) 0
  pub flags : c.flags ≡ slice_index (drop offset bytes) 1
  pub item : IsItemAt (λ n. drop n bytes) (length bytes) offset c.value_offset (value_at bytes c)
      c.next
  pub means : MeansFirst (chunks lenient) (chunk_row lenient c.typ c.flags) (drop offset bytes)
      (value_at bytes c) (drop c.next bytes)

-- ---- DATA (RFC 9260 section 3.3.1) and I-DATA (RFC 8260 section 2.1)

abbrev pub data_at : List ℕ → DcsctpChunk → Option data_kind.Tree
data_at bytes c = option_and_then (read_user_data c.typ c.flags) (value_at bytes c)

-- the struct as plain data, with the payload as a part of the bytes
abbrev pub data_view : List ℕ → DcsctpData → data_kind.Tree
data_view bytes d = record {
  tsn = d.tsn;
  user_data = record {
    unordered = d.is_unordered;
    stream = d.stream;
    ssn = d.ssn;
    mid = d.mid;
    fsn = d.fsn;
    ppid = d.ppid;
    payload = part bytes d.payload_offset d.payload_size;
    beginning = d.is_beginning;
    ending = d.is_end;
  };
  immediate_ack = d.immediate_ack;
}

-- The struct holds the chunk's user data, whose payload ends where the chunk's value does.
pub record HoldsData (bytes : List ℕ) (c : DcsctpChunk) (tree : data_kind.Tree)
    (d : DcsctpData) : Type 0 where
  pub view : data_view bytes d ≡ tree
  pub size : d.payload_size ≡ length tree.user_data.payload
  pub ends : d.payload_offset + d.payload_size ≡ c.value_offset + c.value_size

-- ---- SACK (RFC 9260 section 3.3.4)

abbrev pub sack_at : List ℕ → DcsctpChunk → Option sack_kind.Tree
sack_at bytes c = option_and_then (read_sack c.typ) (value_at bytes c)

pub record HoldsSack (tree : sack_kind.Tree) (s : DcsctpSack) : Type 0 where
  pub tsn : s.cumulative_tsn_ack ≡ tree.tsn
  pub a_rwnd : s.a_rwnd ≡ tree.a_rwnd
  pub blocks : s.block_count ≡ length tree.blocks
  pub duplicates : s.duplicate_count ≡ length tree.duplicates

-- the block, and the duplicate TSN, at an index of its list
abbrev pub block_at : ℕ → Option sack_kind.Tree → Option GapAckBlock
block_at index sack = option_and_then (λ (s : sack_kind.Tree). slice_get s.blocks index) sack

abbrev pub duplicate_at : ℕ → Option sack_kind.Tree → Option ℕ
duplicate_at index sack =
    option_and_then (λ (s : sack_kind.Tree). slice_get s.duplicates index) sack

-- it is a SACK, and its blocks are valid
abbrev pub IsValidSack : Option sack_kind.Tree → Type 0
IsValidSack (Some s) = AreValid s.blocks
IsValidSack None = ⊥

-- ---- INIT and INIT ACK (RFC 9260 sections 3.3.2 and 3.3.3)

-- the tree of INIT or INIT ACK; nothing of any other chunk
abbrev pub init_of : ChunkTree → Option init_fields.Tree
init_of (Init i) = Some i
init_of (InitAck i) = Some i
init_of t = None

-- The numbers of a chunk of this type with this value, without parameters; nothing where it has
-- another type, or its value is too short.
abbrev pub read_init : ℕ → List ℕ → Option init_fields.Tree
read_init typ value =
    if (typ == 1 || typ == 2) && nat_le 16 (length value)
    then Some (init_fields.tree_of value []) else None

abbrev pub init_at : List ℕ → DcsctpChunk → Option init_fields.Tree
init_at bytes c = option_and_then (read_init c.typ) (value_at bytes c)

-- the numbers of the tree
pub record HoldsInit (tree : init_fields.Tree) (i : DcsctpInit) : Type 0 where
  pub tag : i.initiate_tag ≡ tree.tag
  pub window : i.a_rwnd ≡ tree.window
  pub outbound : i.outbound_streams ≡ tree.outbound
  pub inbound : i.inbound_streams ≡ tree.inbound
  pub tsn : i.initial_tsn ≡ tree.tsn

-- ---- SHUTDOWN (RFC 9260 section 3.3.8)

-- the number of a value of four bytes; nothing of any other
abbrev pub read_number : List ℕ → Option ℕ
read_number value = if length value == 4 then Some (number32 value) else None

-- the cumulative TSN ack of SHUTDOWN; nothing of any other chunk
abbrev pub shutdown_of : ChunkTree → Option ℕ
shutdown_of (Shutdown tsn) = Some tsn
shutdown_of t = None

abbrev pub read_shutdown : ℕ → List ℕ → Option ℕ
read_shutdown typ value = if typ == 7 then read_number value else None

abbrev pub shutdown_at : List ℕ → DcsctpChunk → Option ℕ
shutdown_at bytes c = option_and_then (read_shutdown c.typ) (value_at bytes c)

-- ---- FORWARD-TSN (RFC 3758 section 3.2) and I-FORWARD-TSN (RFC 8260 section 2.3.1)

abbrev pub forward_at : List ℕ → DcsctpChunk → Option skipped_streams.Tree
forward_at bytes c = option_and_then (read_forward c.typ) (value_at bytes c)

pub record HoldsForward (tree : skipped_streams.Tree) (f : DcsctpForwardTsn) : Type 0 where
  pub tsn : f.new_cumulative_tsn ≡ tree.tsn
  pub streams : f.stream_count ≡ length tree.streams

-- the skipped stream at an index
abbrev pub skipped_at : ℕ → Option skipped_streams.Tree
    → Option skipped_streams.SkippedStreamTree
skipped_at index forward =
    option_and_then (λ (f : skipped_streams.Tree). slice_get f.streams index) forward

-- the struct as plain data, by a message id or by a sequence number
abbrev pub HoldsSkipped : skipped_streams.SkippedStreamTree → DcsctpSkippedStream → Type 0
HoldsSkipped (skipped_streams.BySsn stream ssn) s =
    s ≡ record { stream = stream; ssn = ssn; mid = 0; is_unordered = false }
HoldsSkipped (skipped_streams.ByMid stream is_unordered mid) s =
    s ≡ record { stream = stream; ssn = 0; mid = mid; is_unordered = is_unordered }
