use Rattle.std.proofs.Common.{◌∙◌}
use Rattle.dcsctp_borrowed.proofs.DataRows.{reads_alike}
use Rattle.dcsctp_borrowed.proofs.user_data.UserData.from_raw.Goals as goal

pub returns-clause-means : goal.returns-clause-means
returns-clause-means c tree means = c.read.ensures.read ∙ reads_alike c.args.raw.now.typ
    c.args.raw.now.flags c.args.raw.now.value.now tree means
