-- The parameters of RE-CONFIG (RFC 6525 section 4), read in their bytes.
use Rattle.std.specs.{Prelude.{◌==◌, ℕ, List, if◌then◌else◌, Option, Some, None, option_map}, Result.{result_ok}}
use Rattle.dcsctp_tlv.specs as kind
use Rattle.dcsctp_tlv.specs.Parameter.{ParameterTree, OutgoingSsnResetRequest, IncomingSsnResetRequest, SsnTsnResetRequest, ReconfigurationResponse, AddOutgoingStreamsRequest, AddIncomingStreamsRequest}
use Rattle.dcsctp_borrowed.specs.declared.re_config_ref.ReConfigRef.{ReConfigRef}
use Rattle.dcsctp_borrowed.specs.declared.re_config_ref.ReConfigRef.TheVariants as variant

-- the parameter as plain data
abbrev pub re_config_view : ReConfigRef → ParameterTree
re_config_view (variant.OutgoingSsnResetRequest request response last_tsn streams) =
    OutgoingSsnResetRequest (record {
      request = request;
      response = response;
      last_tsn = last_tsn.0;
      streams = streams;
    })
re_config_view (variant.IncomingSsnResetRequest request streams) =
    IncomingSsnResetRequest (record { request = request; streams = streams })
re_config_view (variant.SsnTsnResetRequest p) = SsnTsnResetRequest (kind.SsnTsnResetRequest.view p)
re_config_view (variant.ReconfigurationResponse p) =
    ReconfigurationResponse (kind.ReconfigurationResponse.view p)
re_config_view (variant.AddOutgoingStreamsRequest p) =
    AddOutgoingStreamsRequest (kind.AddOutgoingStreamsRequest.view p)
re_config_view (variant.AddIncomingStreamsRequest p) =
    AddIncomingStreamsRequest (kind.AddIncomingStreamsRequest.view p)

-- the tree of a request or the response; nothing of any other parameter
abbrev pub re_config_of : ParameterTree → Option ParameterTree
re_config_of (OutgoingSsnResetRequest r) = Some (OutgoingSsnResetRequest r)
re_config_of (IncomingSsnResetRequest r) = Some (IncomingSsnResetRequest r)
re_config_of (SsnTsnResetRequest request) = Some (SsnTsnResetRequest request)
re_config_of (ReconfigurationResponse r) = Some (ReconfigurationResponse r)
re_config_of (AddOutgoingStreamsRequest r) = Some (AddOutgoingStreamsRequest r)
re_config_of (AddIncomingStreamsRequest r) = Some (AddIncomingStreamsRequest r)
re_config_of t = None

-- What a parameter of this type with this value reads as; nothing where it has another type, or a
-- value that its type doesn't allow.
abbrev pub read_re_config : ℕ → List ℕ → Option ParameterTree
read_re_config typ value =
    if typ == 13 then
    option_map OutgoingSsnResetRequest (result_ok (kind.OutgoingSsnResetRequest.read value)) else
    if typ == 14 then
    option_map IncomingSsnResetRequest (result_ok (kind.IncomingSsnResetRequest.read value)) else
    if typ == 15 then
    option_map SsnTsnResetRequest (result_ok (kind.SsnTsnResetRequest.read value)) else
    if typ == 16 then
    option_map ReconfigurationResponse (result_ok (kind.ReconfigurationResponse.read value)) else
    if typ == 17 then
    option_map AddOutgoingStreamsRequest (result_ok (kind.AddStreamsRequest.read value)) else
    if typ == 18 then
    option_map AddIncomingStreamsRequest (result_ok (kind.AddStreamsRequest.read value)) else
    None
