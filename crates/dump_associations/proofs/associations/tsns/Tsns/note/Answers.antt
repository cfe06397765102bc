use Rattle.std.proofs.Common.{refl, arith}
use Rattle.dump_associations.proofs.Marks.{moved_on}
use Rattle.dump_associations.proofs.associations.tsns.Tsns.note.Goals as goal

pub returns-then-is_after-clause-marks : goal.returns-then-is_after-clause-marks
returns-then-is_after-clause-marks c t t_in near =
    let last = c.in-Some.span.last in
    let tsn = c.args.tsn in
    let seen = c.args.self.now.seen in
    rw c.in-Some.is (moved_on last tsn t seen c.unmark_after.new.seen c.mark-then-is_after.new.seen
    (omega arith) (omega arith) t_in (c.if-is_after.ensures.0 refl) (rw c.in-Some.is at near)
    (c.mark-then-is_after.ensures t) (c.unmark_after.ensures t))
