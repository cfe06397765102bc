use Rattle.dcsctp_c.proofs.Writings.{not_writable}
use Rattle.dcsctp_c.proofs.writing.dcsctp_add_abort.Goals as goal

pub returns-in-Ok-clause-added : goal.returns-in-Ok-clause-added
returns-in-Ok-clause-added c utf8 = rw c.in-Ok.ensures.cases.0 at c.add_chunk.ensures

pub returns-in-Err-clause-other : goal.returns-in-Err-clause-other
returns-in-Err-clause-other c other =
    not_writable _ c.is_begun.result _ c.unwritable.result c.is_begun.ensures c.unwritable.ensures
