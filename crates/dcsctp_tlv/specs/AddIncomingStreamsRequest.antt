-- Add Incoming Streams Request (RFC 6525 section 4.6): type 18.
use Rattle.std.specs.Prelude.{ℕ, List, codes}
use Rattle.dcsctp_tlv.specs.{Kind.{Format, Kind, plain_kind, Fixed}, declared.parameter.add_incoming_streams_request_parameter.AddIncomingStreamsRequestParameter.{AddIncomingStreamsRequestParameter}}
use Rattle.dcsctp_tlv.specs.AddStreamsRequest as request

-- in print
abbrev pub name : List ℕ
name = codes "Add Incoming Streams Request"

abbrev pub format : request.Tree → Format
format = request.format 18 name

abbrev pub view : AddIncomingStreamsRequestParameter → request.Tree
view p = record { request = p.request_seq_nbr; new_streams = p.nbr_new_streams }

abbrev pub kind : Kind
kind = plain_kind 18 Fixed (λ flags. request.read) format
