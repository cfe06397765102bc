use Rattle.dcsctp_borrowed.proofs.CheckedRows.{first_known, others_known}
use Rattle.dcsctp_borrowed.proofs.checked_chunks.CheckedChunksIterator.next.Goals as goal

pub new-requires : goal.new-requires
new-requires c = first_known c.self.inside.raws c.next.new.self c.in-Some.raw c.self.invariant
    c.in-Some.ensures.steps

pub invariant_of-self : goal.invariant_of-self
invariant_of-self c = others_known c.self.inside.raws c.next.new.self c.next.result c.self.invariant
    c.next.ensures.steps
