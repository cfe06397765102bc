use Rattle.std.proofs.Common.{rules}
use Rattle.dcsctp_tlv.{specs.ReconfigurationResponse.{read}, proofs.Exact.{tested_exactly}}
use Rattle.dcsctp_tlv.proofs.parameter.reconfiguration_response_parameter.ReconfigurationResponseParameter.check.Goals as goal

pub returns-then-read-gt-MAX_RESULT : goal.returns-then-read-gt-MAX_RESULT
returns-then-read-gt-MAX_RESULT c = tested_exactly (read c.args.value.now) _ (search rules)
