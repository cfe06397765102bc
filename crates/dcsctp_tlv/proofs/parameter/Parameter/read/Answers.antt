use Rattle.std.proofs.Common.{rules}
use Rattle.dcsctp_tlv.proofs.{Exact.{row_exactly}, ParameterLaws.{row_lawful}}
use Rattle.dcsctp_tlv.proofs.parameter.Parameter.read.Goals as goal

pub returns-in_err-check_value-clause-answer : goal.returns-in_err-check_value-clause-answer
returns-in_err-check_value-clause-answer c =
    row_exactly (row_lawful c.args.typ) _ c.type_inv.value (search rules)
