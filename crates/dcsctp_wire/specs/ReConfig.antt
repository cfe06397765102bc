-- RE-CONFIG (RFC 6525 section 3.1): type 130; the value is a list of parameters.
use Rattle.std.specs.Prelude.{List, codes}
use Rattle.dcsctp_tlv.specs.{Format.{Format}, Kinds.{Kind}}
use Rattle.dcsctp_tlv.specs.Parameter as parameter
use Rattle.dcsctp_wire.specs.ParameterList as list
use Rattle.dcsctp_wire.specs.declared.packet.re_config_chunk.ReConfigChunk.{ReConfigChunk}

abbrev pub format : List parameter.ParameterTree → Format
format ps = list.format 130 (codes "RE-CONFIG") ps

abbrev pub kind : Kind
kind = list.kind_of 130 format

abbrev pub view : ReConfigChunk → List parameter.ParameterTree
view c = parameter.views c.parameters.items
