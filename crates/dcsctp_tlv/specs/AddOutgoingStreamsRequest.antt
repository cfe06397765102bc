-- Add Outgoing Streams Request (RFC 6525 section 4.5): type 17.
use Rattle.std.specs.Prelude.{ℕ, List, codes}
use Rattle.dcsctp_tlv.specs.{Kind.{Format, Kind, plain_kind, Fixed}, declared.parameter.add_outgoing_streams_request_parameter.AddOutgoingStreamsRequestParameter.{AddOutgoingStreamsRequestParameter}}
use Rattle.dcsctp_tlv.specs.AddStreamsRequest as request

-- in print
abbrev pub name : List ℕ
name = codes "Add Outgoing Streams Request"

abbrev pub format : request.Tree → Format
format = request.format 17 name

abbrev pub view : AddOutgoingStreamsRequestParameter → request.Tree
view p = record { request = p.request_seq_nbr; new_streams = p.nbr_new_streams }

abbrev pub kind : Kind
kind = plain_kind 17 Fixed (λ flags. request.read) format
