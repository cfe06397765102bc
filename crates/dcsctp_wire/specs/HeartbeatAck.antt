-- HEARTBEAT ACK (RFC 9260 section 3.3.6): type 5; the value is a list of parameters.
use Rattle.std.specs.Prelude.{List, codes}
use Rattle.dcsctp_tlv.specs.{Format.{Format}, Kinds.{Kind}}
use Rattle.dcsctp_tlv.specs.Parameter as parameter
use Rattle.dcsctp_wire.specs.ParameterList as list
use Rattle.dcsctp_wire.specs.declared.packet.heartbeat_ack_chunk.HeartbeatAckChunk.{HeartbeatAckChunk}

abbrev pub format : List parameter.ParameterTree → Format
format ps = list.format 5 (codes "HEARTBEAT-ACK") ps

abbrev pub kind : Kind
kind = list.kind_of 5 format

abbrev pub view : HeartbeatAckChunk → List parameter.ParameterTree
view c = parameter.views c.parameters.items
