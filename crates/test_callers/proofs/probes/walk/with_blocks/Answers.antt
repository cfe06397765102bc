use Rattle.std.proofs.Common.{◌<◌, ◌^◌, List, ◌∷◌, arith, subst}
use Rattle.dcsctp_chunk.specs.declared.sack_chunk.GapAckBlock.{GapAckBlock}
use Rattle.test_callers.proofs.Sums.{IsGathered, one_gathered}
use Rattle.test_callers.proofs.probes.walk.with_blocks.Goals as goal

pub loop-block-preserved : goal.loop-block-preserved
loop-block-preserved c =
    let block = c.in-Some.block in
    let start : block.start < 2 ^ 16 = omega arith in
    let end : block.end < 2 ^ 16 = omega arith in
    let before : IsGathered c.args.sum c.loop-block.starts c.loop-block.both
    (block ∷ c.next.new.self) c.args.sack.now.blocks = subst
    (λ (left : List GapAckBlock). IsGathered c.args.sum c.loop-block.starts c.loop-block.both left
    c.args.sack.now.blocks) c.in-Some.ensures.steps c.loop-block.invariant in
    one_gathered c.args.sum c.loop-block.starts c.loop-block.both block c.next.new.self
    c.args.sack.now.blocks start end before
