use Rattle.test_callers.proofs.Sums.{IsGathered}
use Rattle.test_callers.proofs.probes.walk.with_blocks.Given as goal

abbrev pub invariant-loop-block : goal.invariant-loop-block
invariant-loop-block l = IsGathered l.fn.sum l.starts l.both l.block-iterator l.fn.sack.blocks
