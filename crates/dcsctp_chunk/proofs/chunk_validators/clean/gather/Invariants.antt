-- The runs in front and the recent ones cover what the first i blocks did; from i on the blocks are
-- as they were.
use Rattle.std.{proofs.Common.{◌≡◌, ◌+◌, ◌<◌, ◌≤◌, take, drop}, specs.List.{SameFrom}}
use Rattle.dcsctp_chunk.specs.Apart.{IsApart, AreFree, both, covered}
use Rattle.dcsctp_chunk.proofs.chunk_validators.clean.gather.Given as goal

abbrev pub invariant-loop-i : goal.invariant-loop-i
invariant-loop-i l = record {
  room : l.counts.front + l.counts.recent ≤ l.i;
  recent_room : l.counts.recent < 256;
  apart : IsApart 0 (take l.counts.front l.blocks);
  recent_apart : IsApart 0 (take l.counts.recent l.recent);
  free : AreFree (drop l.counts.recent l.recent);
  cover : covered (both l.counts l.recent l.blocks) ≡ covered (take l.i l.initial.blocks);
  rest : SameFrom l.initial.blocks l.blocks l.i;
}
