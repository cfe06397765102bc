use Rattle.std.proofs.Common.{arith}
use Rattle.dump_associations.specs.Paths.{Awaits}
use Rattle.dump_packet.proofs.Firsts.{none_more_at, none_of_all}
use Rattle.dump_associations.proofs.paths.awaiting.Goals as goal

pub loop-place-preserved : goal.loop-place-preserved
loop-place-preserved c =
    none_more_at (Awaits c.args.asker c.args.key) c.args.list.now c.loop-place.place _ (omega arith)
    (λ h. let met = c.if-awaits.ensures.1 h in cc) c.loop-place.invariant

pub returns-clause-none : goal.returns-clause-none
returns-clause-none c =
    none_of_all (Awaits c.args.asker c.args.key) c.args.list.now c.loop-place.place (omega arith)
    c.loop-place.invariant
