use Rattle.std.proofs.Common.{length}
use Rattle.test_callers.specs.Probe.{ArePackets}
use Rattle.test_callers.proofs.probes.kept.refill.Given as goal

-- what is left are packets: then all are
abbrev pub invariant-loop-size : goal.invariant-loop-size
invariant-loop-size l = ArePackets l.rest l.left → ArePackets l.block l.sizes

abbrev pub decreases-loop-size : goal.decreases-loop-size
decreases-loop-size l = length l.left
