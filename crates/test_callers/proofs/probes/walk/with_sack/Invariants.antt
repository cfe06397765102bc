use Rattle.std.proofs.Common.{◌≡◌}
use Rattle.test_callers.specs.Walk.{with_duplicates, with_sack}
use Rattle.test_callers.proofs.probes.walk.with_sack.Given as goal

abbrev pub invariant-loop-tsn : goal.invariant-loop-tsn
invariant-loop-tsn l = with_duplicates l.sum l.tsn-iterator ≡ with_sack l.fn.sum l.fn.sack
