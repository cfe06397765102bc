use Rattle.std.proofs.Common.{ℕ, ◌<◌}
use Rattle.dump_packet.specs.Acknowledged.{IsInBlock}
use Rattle.dump_packet.specs.Serial.{ahead}
use Rattle.dump_packet.proofs.acknowledgement.Acknowledgement.has.Given as goal

abbrev pub invariant-loop-block : goal.invariant-loop-block
invariant-loop-block l =
    (k : ℕ) → k < l.block → ¬ (IsInBlock l.fn.self.blocks.now k (ahead l.fn.self.cumulative l.fn.tsn))
