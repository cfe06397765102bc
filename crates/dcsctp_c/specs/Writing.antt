-- The chunks that a C program adds to a packet (RFC 9260 section 3.3), and the parameters and error
-- causes that it adds to a chunk (sections 3.2.1 and 3.3.10), as plain data: made of the structs,
-- the bytes and the lists that it passes.
use Rattle.std.specs.{Prelude.{◌≡◌, ℕ, Bool, true, false, List, [], ◌∷◌, ◌==◌, ◌||◌, if◌then◌else◌, map, Option, Some, None, option_map, length}, Result.{result_ok}}
use Rattle.dcsctp_tlv.specs.{Image.{zeroed}, Parameter.{ParameterTree, tlv as parameter_tlv, OutgoingSsnResetRequest, IncomingSsnResetRequest, SsnTsnResetRequest, ReconfigurationResponse, AddOutgoingStreamsRequest, AddIncomingStreamsRequest}, ReconfigurationResponse.{result_of}}
use Rattle.dcsctp_cause.specs.Cause.{CauseTree, UserInitiatedAbort, tlv as cause_tlv}
use Rattle.dcsctp_chunk.specs.{SkippedStreams.{SkippedStreamTree, BySsn, ByMid}, declared.sack_chunk.GapAckBlock.{GapAckBlock}}
use Rattle.dcsctp_chunk.specs.Data as user_data
use Rattle.dcsctp_wire.specs.Chunk.{ChunkTree, IsChunkEncodable, Data, IData, Sack, Abort, ForwardTsn, IForwardTsn, Unknown}
use Rattle.dcsctp_wire.specs.InitFields as init_fields
use Rattle.dcsctp_buffer.specs.{Buffer.{IsBegun, Declines, HasRoom, IsAdded}, Item.{IsLastChunk, IsExtensible, HasItemRoom, IsItemAdded}, declared.error.WriteError.{WriteError}}
use Rattle.dcsctp_c.specs.{Code.{write_code}, Output.{Output}, declared.structs.{DcsctpData.{DcsctpData}, DcsctpInit.{DcsctpInit}, DcsctpReConfig.{DcsctpReConfig}, DcsctpSkippedStream.{DcsctpSkippedStream}}}

-- ---- what a call does that adds something

-- It is done; or nothing changes, and the code says why not: the first reason that is so.
pub data Does (IsPlace IsWritable HasRoom : Type 0) (IsDone : Output → Output → Type 0)
    (old new : Output) (code : ℕ) : Type 0 where
  done : HasRoom → IsDone old new → code ≡ 0 → Does IsPlace IsWritable HasRoom IsDone old new code
  declined : (e : WriteError) → Declines IsPlace IsWritable HasRoom e → new ≡ old
      → code ≡ write_code e → Does IsPlace IsWritable HasRoom IsDone old new code

-- what is asked can't be written
abbrev pub AddsNothing : Type 0 → Output → Output → ℕ → Type 0
AddsNothing IsPlace = Does IsPlace ⊥ ⊥ (λ before after. ⊥)

-- the chunk is added after the packet's first bytes, as many as the size says
abbrev pub AddsChunk : ChunkTree → Output → Output → ℕ → Type 0
AddsChunk t old = Does (IsBegun (length old.bytes) old.size) (IsChunkEncodable t)
    (HasRoom (length old.bytes) old.size t)
    (λ before after. IsAdded t before.bytes before.size after.bytes after.size) old

-- an item is added to the chunk that begins at `start` and ends the packet
abbrev pub AddsItem : ℕ → ℕ → List ℕ → Output → Output → ℕ → Type 0
AddsItem start typ value old = Does (IsLastChunk old.bytes old.size start)
    (IsExtensible old.bytes start value) (HasItemRoom old.bytes old.size start value)
    (λ before after.
    IsItemAdded typ value before.bytes before.size start after.bytes after.size) old

-- ---- chunks

abbrev pub any_chunk : ℕ → ℕ → List ℕ → ChunkTree
any_chunk typ flags value = Unknown (record { typ = typ; flags = flags; value = value })

-- the struct's user data with this payload
abbrev pub user_data_of : DcsctpData → List ℕ → user_data.DataTree
user_data_of d payload = record {
  unordered = d.is_unordered;
  stream = d.stream;
  ssn = d.ssn;
  mid = d.mid;
  fsn = d.fsn;
  ppid = d.ppid;
  payload = payload;
  beginning = d.is_beginning;
  ending = d.is_end;
}

abbrev pub data_tree : DcsctpData → user_data.DataTree → user_data.Tree
data_tree d carried =
    record { tsn = d.tsn; user_data = carried; immediate_ack = d.immediate_ack }

-- DATA doesn't carry the MID and the FSN, I-DATA not the SSN
abbrev pub data_chunk : DcsctpData → List ℕ → ChunkTree
data_chunk d payload = Data (data_tree d (record (user_data_of d payload) { mid = 0; fsn = 0 }))

abbrev pub i_data_chunk : DcsctpData → List ℕ → ChunkTree
i_data_chunk d payload = IData (data_tree d (record (user_data_of d payload) { ssn = 0 }))

abbrev pub sack_chunk : ℕ → ℕ → List GapAckBlock → List ℕ → ChunkTree
sack_chunk cumulative_tsn_ack a_rwnd blocks duplicates = Sack (record {
  tsn = cumulative_tsn_ack;
  a_rwnd = a_rwnd;
  blocks = blocks;
  duplicates = duplicates;
})

-- the struct's numbers, without parameters
abbrev pub init_tree : DcsctpInit → init_fields.Tree
init_tree i = record {
  tag = i.initiate_tag;
  window = i.a_rwnd;
  outbound = i.outbound_streams;
  inbound = i.inbound_streams;
  tsn = i.initial_tsn;
  parameters = [];
}

-- ABORT with a User-Initiated Abort as its one cause
abbrev pub abort_chunk : Bool → List ℕ → ChunkTree
abort_chunk tag_reflected reason =
    Abort (record { tag_reflected = tag_reflected; causes = UserInitiatedAbort reason ∷ [] })

-- a skipped stream of I-FORWARD-TSN, or of FORWARD-TSN
abbrev pub skipped_stream : Bool → DcsctpSkippedStream → SkippedStreamTree
skipped_stream by_mid s =
    if by_mid then ByMid s.stream s.is_unordered s.mid else BySsn s.stream s.ssn

abbrev pub forward_tsn_chunk : ℕ → List DcsctpSkippedStream → ChunkTree
forward_tsn_chunk tsn streams =
    ForwardTsn (record { tsn = tsn; streams = map (skipped_stream false) streams })

abbrev pub i_forward_tsn_chunk : ℕ → List DcsctpSkippedStream → ChunkTree
i_forward_tsn_chunk tsn streams =
    IForwardTsn (record { tsn = tsn; streams = map (skipped_stream true) streams })

-- ---- parameters and error causes

-- a request or response without streams; nothing for another type, or a result that isn't one
-- (RFC 6525 section 4)
abbrev pub fixed_tree : DcsctpReConfig → Option ParameterTree
fixed_tree c =
    if c.typ == 15 then Some (SsnTsnResetRequest c.request_number) else
    if c.typ == 16 then option_map (λ result. ReconfigurationResponse (record {
      response = c.response_number;
      result = result;
      sender_next_tsn = if c.has_next_tsns then Some c.sender_next_tsn else None;
      receiver_next_tsn = if c.has_next_tsns then Some c.receiver_next_tsn else None;
    })) (result_ok (result_of c.result)) else
    if c.typ == 17 then Some (AddOutgoingStreamsRequest (record {
      request = c.request_number;
      new_streams = c.new_streams;
    })) else
    if c.typ == 18 then Some (AddIncomingStreamsRequest (record {
      request = c.request_number;
      new_streams = c.new_streams;
    })) else
    None

-- the same, or a request with these streams
abbrev pub re_config_tree : DcsctpReConfig → List ℕ → Option ParameterTree
re_config_tree c streams =
    if c.typ == 13 then Some (OutgoingSsnResetRequest (record {
      request = c.request_number;
      response = c.response_number;
      last_tsn = c.last_tsn;
      streams = streams;
    })) else
    if c.typ == 14 then Some (IncomingSsnResetRequest (record {
      request = c.request_number;
      streams = streams;
    })) else
    fixed_tree c

-- the value of a parameter, and of an error cause, as it is written
abbrev pub value_of : ParameterTree → List ℕ
value_of p = zeroed (parameter_tlv p).value

abbrev pub cause_value : CauseTree → List ℕ
cause_value c = zeroed (cause_tlv c).value

-- stream ids end a parameter of this type
abbrev pub has_streams : ℕ → Bool
has_streams typ = typ == 13 || typ == 14

-- an item of this type with this value is added, if there is one
abbrev pub AddsSomeItem : ℕ → ℕ → Option (List ℕ) → Output → Output → ℕ → Type 0
AddsSomeItem start typ (Some value) old new code = AddsItem start typ value old new code
AddsSomeItem start typ None old new code =
    AddsNothing (IsLastChunk old.bytes old.size start) old new code

-- the parameter is added, if there is one
abbrev pub AddsParameter : ℕ → ℕ → Option ParameterTree → Output → Output → ℕ → Type 0
AddsParameter start typ found = AddsSomeItem start typ (option_map value_of found)
