-- The requests and the response of RE-CONFIG (RFC 6525 section 4), and the cause Missing Mandatory
-- Parameter (RFC 9260 section 3.3.10.2), as a C program reads them.
use Rattle.std.specs.{Prelude.{◌≡◌, ◌&&◌, ℕ, false, List, Option, Some, None, length, slice_get}, Option.{is_some, option_and_then, unwrap_or}}
use Rattle.dcsctp_tlv.specs.ReconfigurationResponse.{result_number}
use Rattle.dcsctp_tlv.specs.Parameter.{ParameterTree, OutgoingSsnResetRequest, IncomingSsnResetRequest, SsnTsnResetRequest, ReconfigurationResponse, AddOutgoingStreamsRequest, AddIncomingStreamsRequest}
use Rattle.dcsctp_borrowed.specs.{MissingParameters.{read_missing}, ReConfig.{read_re_config}}
use Rattle.dcsctp_c.specs.Parameter.{parameter_value}
use Rattle.dcsctp_c.specs.declared.structs.{DcsctpParameter.{DcsctpParameter}, DcsctpReConfig.{DcsctpReConfig}}

abbrev pub re_config_at : List ℕ → DcsctpParameter → Option ParameterTree
re_config_at bytes p = option_and_then (read_re_config p.typ) (parameter_value bytes p)

-- of a type, with 0 in each other field
abbrev pub only : ℕ → DcsctpReConfig
only typ = record {
  typ = typ;
  request_number = 0;
  response_number = 0;
  last_tsn = 0;
  result = 0;
  has_next_tsns = false;
  sender_next_tsn = 0;
  receiver_next_tsn = 0;
  new_streams = 0;
  stream_count = 0;
}

-- The struct has all that the request or the response holds, but for the streams.
abbrev pub HoldsReConfig : ParameterTree → DcsctpReConfig → Type 0
HoldsReConfig (OutgoingSsnResetRequest r) s = s ≡ record (only 13) {
  request_number = r.request;
  response_number = r.response;
  last_tsn = r.last_tsn;
  stream_count = length r.streams;
}
HoldsReConfig (IncomingSsnResetRequest r) s =
    s ≡ record (only 14) { request_number = r.request; stream_count = length r.streams }
HoldsReConfig (SsnTsnResetRequest request) s = s ≡ record (only 15) { request_number = request }
HoldsReConfig (ReconfigurationResponse r) s = s ≡ record (only 16) {
  response_number = r.response;
  result = result_number r.result;
  has_next_tsns = is_some r.sender_next_tsn && is_some r.receiver_next_tsn;
  sender_next_tsn = unwrap_or r.sender_next_tsn 0;
  receiver_next_tsn = unwrap_or r.receiver_next_tsn 0;
}
HoldsReConfig (AddOutgoingStreamsRequest r) s =
    s ≡ record (only 17) { request_number = r.request; new_streams = r.new_streams }
HoldsReConfig (AddIncomingStreamsRequest r) s =
    s ≡ record (only 18) { request_number = r.request; new_streams = r.new_streams }
HoldsReConfig t s = ⊥

-- the streams of an Outgoing or Incoming SSN Reset Request; nothing of any other parameter
abbrev pub reset_streams : ParameterTree → Option (List ℕ)
reset_streams (OutgoingSsnResetRequest r) = Some r.streams
reset_streams (IncomingSsnResetRequest r) = Some r.streams
reset_streams t = None

-- the types in a Missing Mandatory Parameter
abbrev pub missing_at : List ℕ → DcsctpParameter → Option (List ℕ)
missing_at bytes cause = option_and_then (read_missing cause.typ) (parameter_value bytes cause)

-- the number at an index of a list, where there is one
abbrev pub at_index : ℕ → Option (List ℕ) → Option ℕ
at_index index numbers = option_and_then (λ (ns : List ℕ). slice_get ns index) numbers
