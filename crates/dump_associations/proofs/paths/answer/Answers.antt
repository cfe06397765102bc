use Rattle.dump_associations.specs.Paths.{Awaits}
use Rattle.dump_packet.proofs.Firsts.{any_at}
use Rattle.dump_associations.proofs.paths.answer.Goals as goal

pub returns-in-Some-clause-first : goal.returns-in-Some-clause-first
returns-in-Some-clause-first c _ =
    let is = rw c.deref.ensures.value at c.in-Some.ensures.some in
    (c.in-Some.place, is, c.answer_at.ensures.answered)

pub returns-in-Some-clause-none : goal.returns-in-Some-clause-none
returns-in-Some-clause-none c none =
    let is = rw c.deref.ensures.value at c.in-Some.ensures.some in
    absurd (none (any_at (Awaits c.args.asker c.args.key) c.args.list.now.items c.in-Some.place is))
