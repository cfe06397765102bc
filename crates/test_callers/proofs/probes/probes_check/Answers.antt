use Rattle.std.proofs.Common.{refl}
use Rattle.dcsctp_wire.specs.Account.{node_count}
use Rattle.test_callers.proofs.probes.probes_check.Goals as goal

pub returns-in-Ok-clause-packet : goal.returns-in-Ok-clause-packet
returns-in-Ok-clause-packet c p answer =
    c.in-Ok.ensures.answer.value (node_count p.meaning) (p, answer, refl)

pub returns-in-Ok-clause-none : goal.returns-in-Ok-clause-none
returns-in-Ok-clause-none c none =
    let found = c.in-Ok.ensures.answer.answers in absurd (none (found.0, found.1))

pub returns-in-Err-clause-packet : goal.returns-in-Err-clause-packet
returns-in-Err-clause-packet c p answer =
    absurd (c.in-Err.ensures.answer.value (node_count p.meaning) (p, answer, refl))
