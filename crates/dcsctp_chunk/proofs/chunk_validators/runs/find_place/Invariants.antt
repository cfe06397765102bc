-- The run covers the block and the runs that it took in, and starts late enough for those before.
use Rattle.std.proofs.Common.{◌≡◌, ◌≤◌, ◌-◌, ◌∷◌, length, take, drop}
use Rattle.dcsctp_chunk.specs.Apart.{after, covered}
use Rattle.dcsctp_chunk.proofs.chunk_validators.runs.find_place.Given as goal

abbrev pub invariant-loop-last : goal.invariant-loop-last
invariant-loop-last l = record {
  order : l.initial.last ≤ l.last;
  bound : l.last ≤ length l.runs;
  start : l.run.start ≤ l.initial.run.start;
  within : l.initial.run.end ≤ l.run.end;
  low : after 0 (take l.initial.last l.runs) ≤ l.run.start;
  cover : covered (l.run ∷ drop l.last l.runs)
      ≡ covered (l.initial.run ∷ drop l.initial.last l.runs);
}

abbrev pub decreases-loop-last : goal.decreases-loop-last
decreases-loop-last l = length l.runs - l.last
