use Rattle.dcsctp_c.proofs.NumberRows.{shutdown_there}
use Rattle.dcsctp_c.proofs.parts.read_shutdown.Goals as goal

pub returns-clause-means : goal.returns-clause-means
returns-clause-means c tree m = shutdown_there c.args.bytes.now c.args.chunk.now tree m
