-- INIT (RFC 9260 section 3.3.2) and INIT ACK (section 3.3.3) without parameters.
use Rattle.std.specs.Prelude.{Bool, [], if◌then◌else◌}
use Rattle.dcsctp_wire.specs.{Chunk.{ChunkTree, Init, InitAck}, InitFields.{Tree}}
use Rattle.dcsctp_buffer.specs.declared.init.BorrowedInit.{BorrowedInit}

abbrev pub init : Bool → Tree → ChunkTree
init is_ack i = if is_ack then InitAck i else Init i

-- its numbers
abbrev pub fields : BorrowedInit → Tree
fields i = record {
  tag = i.initiate_tag;
  window = i.a_rwnd;
  outbound = i.nbr_outbound_streams;
  inbound = i.nbr_inbound_streams;
  tsn = i.initial_tsn.0;
  parameters = [];
}

abbrev pub view : BorrowedInit → ChunkTree
view i = init i.is_ack (fields i)
