use Rattle.std.proofs.Common.{inr}
use Rattle.std.proofs.Math.Seq.{take-append_seam, drop-append_seam}
use Rattle.dcsctp_wire.specs.Canonical.{canonical}
use Rattle.test_callers.proofs.probes.probes_write_in_place.Goals as goal

pub returns-in-Ok-write_canonical-clause-rest : goal.returns-in-Ok-write_canonical-clause-rest
returns-in-Ok-write_canonical-clause-rest c =
    let is = c.in-Ok.ensures.answer.answers.0 in
    let all = c.in-Ok-write_canonical.ensures.written is.0 (c.in-Ok.ensures.refers is.0 is.1) in
    rw (all.2, all.1) (drop-append_seam (canonical is.0.meaning) _)

pub returns-in-Ok-write_canonical-clause-written : goal.returns-in-Ok-write_canonical-clause-written
returns-in-Ok-write_canonical-clause-written c =
    let is = c.in-Ok.ensures.answer.answers.0 in
    let all = c.in-Ok-write_canonical.ensures.written is.0 (c.in-Ok.ensures.refers is.0 is.1) in
    inr (is.0, is.1, rw (all.2, all.1) (take-append_seam (canonical is.0.meaning) _))
