-- INIT ACK (RFC 9260 section 3.3.3): type 2.
use Rattle.std.specs.Prelude.{codes}
use Rattle.dcsctp_tlv.specs.{Format.{Format}, Kinds.{Kind}}
use Rattle.dcsctp_tlv.specs.Parameter as parameter
use Rattle.dcsctp_wire.specs.InitFields as fields
use Rattle.dcsctp_wire.specs.declared.packet.init_ack_chunk.InitAckChunk.{InitAckChunk}

abbrev pub format : fields.Tree → Format
format i = fields.format 2 (codes "INIT-ACK") i

abbrev pub kind : Kind
kind = fields.kind_of 2 format

abbrev pub view : InitAckChunk → fields.Tree
view c = fields.view (record {
  initiate_tag = c.initiate_tag;
  a_rwnd = c.a_rwnd;
  nbr_outbound_streams = c.nbr_outbound_streams;
  nbr_inbound_streams = c.nbr_inbound_streams;
  initial_tsn = c.initial_tsn;
}) (parameter.views c.parameters.items)
