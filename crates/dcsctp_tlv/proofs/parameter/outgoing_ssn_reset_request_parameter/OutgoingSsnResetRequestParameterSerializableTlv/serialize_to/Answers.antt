use Rattle.dcsctp_tlv.proofs.parameter.outgoing_ssn_reset_request_parameter.OutgoingSsnResetRequestParameterSerializableTlv.serialize_to.Goals as goal

pub returns : goal.returns
returns c =
    let put = c.put_parameter_fields.ensures in
    rw (c.words-leading.ensures, c.deref.ensures.value) at put
