use Rattle.dcsctp_report.proofs.JsonStrings.{is_string}
use Rattle.dcsctp_report.proofs.laws.json_string.Goals as goal

pub returns : goal.returns
returns c = is_string
