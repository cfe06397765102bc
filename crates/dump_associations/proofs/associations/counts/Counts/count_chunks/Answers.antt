use Rattle.std.proofs.Common.{refl, subst, ◌∙◌}
use Rattle.dcsctp_borrowed.specs.Part.{item_of}
use Rattle.dump_associations.specs.Counts.{CountsChunks, with_chunk}
use Rattle.dump_associations.proofs.ChunkCounts.{Counting-none, Counting-next, Counting-all}
use Rattle.dump_associations.proofs.associations.counts.Counts.count_chunks.Goals as goal

pub loop-chunk-init : goal.loop-chunk-init
loop-chunk-init c = (Counting-none (with_chunk c.args.number) _ _, refl)

pub loop-chunk-preserved : goal.loop-chunk-preserved
loop-chunk-preserved c =
    let steps = c.in-Some.ensures.steps in (
      Counting-next (with_chunk c.args.number) c.into_iter-chunk-iterator.result c.loop-chunk.chunk-iterator
          c.next.new.self c.args.self.now c.loop-chunk.self c.count_chunk.new.self (item_of c.in-Some.chunk)
          c.loop-chunk.invariant.0 steps.0 steps.1 steps.2 c.count_chunk.ensures.chunk,
      c.count_chunk.ensures.packets ∙ c.loop-chunk.invariant.1,
    )

pub returns-clause-chunks : goal.returns-clause-chunks
returns-clause-chunks c =
    subst (λ p. CountsChunks c.args.number c.args.self.now p c.loop-chunk.self)
    c.into_iter-chunk-iterator.ensures.into_iter_gives
    (Counting-all (with_chunk c.args.number) c.into_iter-chunk-iterator.result c.loop-chunk.chunk-iterator
    c.args.self.now c.loop-chunk.self c.loop-chunk.invariant.0 c.in-None.ensures.steps.0)
