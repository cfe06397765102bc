-- INIT (RFC 9260 section 3.3.2): type 1.
use Rattle.std.specs.Prelude.{codes}
use Rattle.dcsctp_tlv.specs.{Format.{Format}, Kinds.{Kind}}
use Rattle.dcsctp_tlv.specs.Parameter as parameter
use Rattle.dcsctp_wire.specs.InitFields as fields
use Rattle.dcsctp_wire.specs.declared.packet.init_chunk.InitChunk.{InitChunk}

abbrev pub format : fields.Tree → Format
format i = fields.format 1 (codes "INIT") i

abbrev pub kind : Kind
kind = fields.kind_of 1 format

abbrev pub view : InitChunk → fields.Tree
view c = fields.view (record {
  initiate_tag = c.initiate_tag;
  a_rwnd = c.a_rwnd;
  nbr_outbound_streams = c.nbr_outbound_streams;
  nbr_inbound_streams = c.nbr_inbound_streams;
  initial_tsn = c.initial_tsn;
}) (parameter.views c.parameters.items)
