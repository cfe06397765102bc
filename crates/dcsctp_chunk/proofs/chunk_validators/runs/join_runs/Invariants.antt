-- Those of the others that are left lie before the far side of the gap, and with the runs on both
-- sides they cover what is covered.
use Rattle.std.proofs.Common.{◌≡◌, ◌+◌, ◌≤◌, ◌++◌, length, take, drop}
use Rattle.dcsctp_chunk.specs.Apart.{IsApart, after, around, covered}
use Rattle.dcsctp_chunk.proofs.chunk_validators.runs.join_runs.Given as goal

abbrev pub invariant-loop-left : goal.invariant-loop-left
invariant-loop-left l = record {
  room : l.gap.low + l.left ≤ l.gap.high;
  bound : l.gap.high ≤ length l.runs;
  left_bound : l.left ≤ length l.others;
  apart : IsApart 0 (around l.gap l.runs);
  past : IsApart (after 0 (take l.left l.others)) (drop l.gap.high l.runs);
  cover : covered (take l.left l.others ++ around l.gap l.runs)
      ≡ covered (l.others ++ take l.kept l.initial.runs);
}

abbrev pub decreases-loop-left : goal.decreases-loop-left
decreases-loop-left l = l.left
