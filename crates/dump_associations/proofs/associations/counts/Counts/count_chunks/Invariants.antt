-- Whatever chunks are left, all are they and those before them that were counted.
use Rattle.std.proofs.Common.{◌≡◌}
use Rattle.dump_associations.specs.Counts.{with_chunk}
use Rattle.dump_associations.proofs.ChunkCounts.{Counting}
use Rattle.dump_associations.proofs.associations.counts.Counts.count_chunks.Given as goal

abbrev pub invariant-loop-chunk : goal.invariant-loop-chunk
invariant-loop-chunk l =
    Counting (with_chunk l.number) l.initial.chunk-iterator l.initial.self l.chunk-iterator l.self
    × (l.self.packets ≡ l.initial.self.packets)
