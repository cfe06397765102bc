-- The blocks so far are apart, and so are those that are left, if and only if all are.
use Rattle.std.{proofs.Common.{◌↔◌, ◌≤◌, IsTrue, drop}, specs.List.{AllWithin}}
use Rattle.dcsctp_chunk.specs.{declared.sack_chunk.GapAckBlock.{GapAckBlock}, Apart.{IsApart}}
use Rattle.dcsctp_chunk.proofs.chunk_validators.validate.are_apart.Given as goal

abbrev pub invariant-loop-block : goal.invariant-loop-block
invariant-loop-block l = record {
  apart : IsApart 2 l.blocks ↔ (IsTrue l.apart × IsApart l.least (drop l.block-index l.blocks));
  ends : AllWithin (λ (b : GapAckBlock). b.end ≤ 65535) l.blocks 0 l.block-index;
}
