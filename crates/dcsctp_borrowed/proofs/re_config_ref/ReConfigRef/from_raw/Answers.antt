use Rattle.std.proofs.Common.{◌∙◌}
use Rattle.dcsctp_borrowed.proofs.ReConfigRows.{requests_alike}
use Rattle.dcsctp_borrowed.proofs.re_config_ref.ReConfigRef.from_raw.Goals as goal

pub returns-clause-means : goal.returns-clause-means
returns-clause-means c tree means = c.of_value.ensures ∙ requests_alike c.args.raw.now.typ
    c.args.raw.now.value.now tree means
