-- Whatever causes are left, all are they and those before them that were counted.
use Rattle.dump_associations.specs.StaleCookies.{with_cause}
use Rattle.dump_associations.proofs.ChunkCounts.{Counting}
use Rattle.dump_associations.proofs.associations.stale_cookies.StaleCookies.count_causes.Given as goal

abbrev pub invariant-loop-cause : goal.invariant-loop-cause
invariant-loop-cause l =
    Counting with_cause l.initial.cause-iterator l.initial.self l.cause-iterator l.self
