-- The run covers the block and the runs that it took in.
use Rattle.std.proofs.Common.{◌≡◌, ◌+◌, ◌≤◌, ◌∷◌, max, length, take}
use Rattle.dcsctp_chunk.specs.Apart.{after, covered}
use Rattle.dcsctp_chunk.proofs.chunk_validators.runs.last_place.Given as goal

abbrev pub invariant-loop-first : goal.invariant-loop-first
invariant-loop-first l = record {
  bound : l.first ≤ length l.runs;
  start : l.run.start ≤ l.fn.block.start;
  within : l.fn.block.end ≤ l.run.end;
  last : l.run.end + 2 ≤ max (l.fn.block.end + 2) (after 0 l.runs);
  cover : covered (l.run ∷ take l.first l.runs) ≡ covered (l.fn.block ∷ l.runs);
}

abbrev pub decreases-loop-first : goal.decreases-loop-first
decreases-loop-first l = l.first
