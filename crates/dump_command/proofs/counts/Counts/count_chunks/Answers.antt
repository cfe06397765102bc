use Rattle.std.proofs.Common.{◌≡◌, ℕ, List, fold, subst}
use Rattle.dump_packet.specs.ChunkTypes.{ChunkTypes}
use Rattle.dump_command.specs.Counts.{with_kind}
use Rattle.dump_command.proofs.ChunkKinds.{Counting-next, Counting-all, kind_counted}
use Rattle.dump_command.proofs.counts.Counts.count_chunks.Goals as goal

pub loop-chunk-preserved : goal.loop-chunk-preserved
loop-chunk-preserved c =
    let front = c.in-Some.ensures.steps.2 in
    Counting-next c.into_iter-chunk-iterator.result c.loop-chunk.chunk-iterator c.next.new.self
    c.args.self.now c.loop-chunk.self _ c.in-Some.chunk.typ c.loop-chunk.invariant
    c.in-Some.ensures.steps.0 front.frame front.rest
    (kind_counted c.loop-chunk.self c.in-Some.chunk.typ c.from.result c.increase.new.count
    c.from.ensures c.increase.ensures)

pub returns : goal.returns
returns c =
    subst (λ (l : List ℕ). (types : List ℕ) × ChunkTypes l types
    × (c.loop-chunk.self ≡ record c.args.self.now {
      kinds = fold with_kind c.args.self.now.kinds types;
    })) c.into_iter-chunk-iterator.ensures.into_iter_gives
    (Counting-all c.into_iter-chunk-iterator.result c.loop-chunk.chunk-iterator c.args.self.now
    c.loop-chunk.self c.loop-chunk.invariant c.in-None.ensures.steps.none)
