use Rattle.std.proofs.Common.{false}
use Rattle.dcsctp_c.{specs.Part.{HoldsInit, init_at}, proofs.InitRows.{init_alike, nothing_read}}
use Rattle.dcsctp_c.proofs.parts.dcsctp_init.Goals as goal

pub returns-in_default-clause-means : goal.returns-in_default-clause-means
returns-in_default-clause-means c tree m =
    init_alike c.args.bytes.now c.args.chunk.now tree c.args.init.now c.args.init.now false m
    (nothing_read HoldsInit (init_at c.args.bytes.now c.args.chunk.now) c.args.init.now
    c.in_default.ensures)
