use Rattle.dcsctp_tlv.proofs.ParameterLaws.{parameter_tested}
use Rattle.dcsctp_tlv.proofs.parameter.Parameter.check_value.Goals as goal

pub returns : goal.returns
returns c = parameter_tested c.args.typ c.args.value.now _ c.check_kind.ensures
