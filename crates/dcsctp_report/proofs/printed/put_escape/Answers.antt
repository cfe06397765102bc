use Rattle.std.proofs.Common.{arith}
use Rattle.dcsctp_report.proofs.PrintedTexts.{escape_text}
use Rattle.dcsctp_report.proofs.printed.put_escape.Goals as goal

pub returns-clause-utf8 : goal.returns-clause-utf8
returns-clause-utf8 c = escape_text c.args.byte (omega arith)
