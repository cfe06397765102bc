use Rattle.dcsctp_cause.proofs.CauseLaws.{cause_tested}
use Rattle.dcsctp_cause.proofs.error_causes.ErrorCause.check_value.Goals as goal

pub returns : goal.returns
returns c = cause_tested c.args.code c.args.value.now _ c.check_kind.ensures
