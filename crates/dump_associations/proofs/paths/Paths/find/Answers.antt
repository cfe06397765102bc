use Rattle.std.proofs.Common.{arith}
use Rattle.dump_associations.specs.Paths.{Goes}
use Rattle.dump_packet.proofs.Firsts.{none_more_at, none_of_all}
use Rattle.dump_associations.proofs.paths.Paths.find.Goals as goal

pub loop-place-preserved : goal.loop-place-preserved
loop-place-preserved c =
    let not_it = rw c.deref-path-items.ensures.value at c.if-is_way.ensures.1 in
    none_more_at (Goes c.args.way) c.args.self.now.list.items c.loop-place.place _ (omega arith)
    (λ h. let met = not_it h in cc) c.loop-place.invariant

pub returns-clause-none : goal.returns-clause-none
returns-clause-none c =
    none_of_all (Goes c.args.way) c.args.self.now.list.items c.loop-place.place (omega arith)
    c.loop-place.invariant
