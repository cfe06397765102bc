-- The blocks that are left are apart from those before them if and only if all are.
use Rattle.std.proofs.Common.{◌↔◌}
use Rattle.dcsctp_chunk.specs.Apart.{IsApart}
use Rattle.dcsctp_borrowed.proofs.sack_ref.SackRef.validate.Given as goal

abbrev pub invariant-loop-block : goal.invariant-loop-block
invariant-loop-block l = IsApart 2 l.self.blocks ↔ IsApart l.least l.block-iterator
