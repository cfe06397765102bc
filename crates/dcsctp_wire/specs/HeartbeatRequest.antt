-- HEARTBEAT (RFC 9260 section 3.3.5): type 4; the value is a list of parameters.
use Rattle.std.specs.Prelude.{List, codes}
use Rattle.dcsctp_tlv.specs.{Format.{Format}, Kinds.{Kind}}
use Rattle.dcsctp_tlv.specs.Parameter as parameter
use Rattle.dcsctp_wire.specs.ParameterList as list
use Rattle.dcsctp_wire.specs.declared.packet.heartbeat_request_chunk.HeartbeatRequestChunk.{HeartbeatRequestChunk}

abbrev pub format : List parameter.ParameterTree → Format
format ps = list.format 4 (codes "HEARTBEAT-REQ") ps

abbrev pub kind : Kind
kind = list.kind_of 4 format

abbrev pub view : HeartbeatRequestChunk → List parameter.ParameterTree
view c = parameter.views c.parameters.items
