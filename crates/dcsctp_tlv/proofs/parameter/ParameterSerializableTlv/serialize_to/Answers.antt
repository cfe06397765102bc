use Rattle.dcsctp_tlv.proofs.parameter.ParameterSerializableTlv.serialize_to.Goals as goal

pub returns-in-OutgoingSsnResetRequest : goal.returns-in-OutgoingSsnResetRequest
returns-in-OutgoingSsnResetRequest c =
    rw c.in-OutgoingSsnResetRequest.is c.serialize_to-in-OutgoingSsnResetRequest.ensures

pub returns-in-ReconfigurationResponse : goal.returns-in-ReconfigurationResponse
returns-in-ReconfigurationResponse c =
    rw c.in-ReconfigurationResponse.is c.serialize_to-in-ReconfigurationResponse.ensures
