-- Whatever types the chunks that are left have, all have these types, and those that were counted
-- before them.
use Rattle.dump_command.proofs.ChunkKinds.{Counting}
use Rattle.dump_command.proofs.counts.Counts.count_chunks.Given as goal

abbrev pub invariant-loop-chunk : goal.invariant-loop-chunk
invariant-loop-chunk l = Counting l.initial.chunk-iterator l.initial.self l.chunk-iterator l.self
