-- The gap moves down, and the runs on both sides are the same.
use Rattle.std.proofs.Common.{◌≡◌, ◌+◌, ◌-◌, ◌≤◌, List, drop}
use Rattle.dcsctp_chunk.specs.{declared.sack_chunk.GapAckBlock.{GapAckBlock}, declared.chunk_validators.runs.Gap.{Gap}, Apart.{IsApart, around}}
use Rattle.dcsctp_chunk.proofs.chunk_validators.runs.lift_past.Given as goal

abbrev pub IsLifted : GapAckBlock → Gap → List GapAckBlock → Gap → List GapAckBlock → Type 0
IsLifted block gap old left runs = record {
  order : left.low + gap.high ≡ gap.low + left.high;
  bound : left.high ≤ gap.high;
  same : around left runs ≡ around gap old;
  below : IsApart (block.end + 2) (drop left.high runs);
}

abbrev pub invariant-loop-left : goal.invariant-loop-left
invariant-loop-left l = IsLifted l.block l.fn.gap l.fn.runs l.left l.runs

abbrev pub decreases-loop-left : goal.decreases-loop-left
decreases-loop-left l = l.left.low - 7

abbrev pub invariant-loop-left-2 : goal.invariant-loop-left-2
invariant-loop-left-2 l = IsLifted l.block l.fn.gap l.fn.runs l.left l.runs

abbrev pub decreases-loop-left-2 : goal.decreases-loop-left-2
decreases-loop-left-2 l = l.left.low
