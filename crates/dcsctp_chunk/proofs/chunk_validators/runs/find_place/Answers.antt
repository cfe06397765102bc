-- Each step of the walk up takes in a run; the one after them starts too late, or there is none.
use Rattle.std.proofs.{Common.{◌+◌, ◌-◌, get_or, drop, arith}, lemmas.Grind.{common_steps}}
use Rattle.dcsctp_chunk.proofs.{Covers.{zero_block, cover_join}, Apart.{apart_at, after_take}}
use Rattle.dcsctp_chunk.proofs.chunk_validators.runs.find_place.Goals as goal

pub loop-last-init : goal.loop-last-init
loop-last-init c =
    let first = c.args.first in
    let early = c.requires.point.0 (first - 1) zero_block in
    grind (arith, common_steps, early, after_take 0 first c.args.runs.now)

pub loop-last-preserved : goal.loop-last-preserved
loop-last-preserved c =
    let runs = c.args.runs.now in
    let i = c.loop-last.last in
    let r = get_or runs i zero_block in
    let inv = c.loop-last.invariant in
    let reached = c.requires.point.1 i zero_block inv.order c.loop-last-test.true in
    let at = apart_at 0 c.args.first i runs zero_block c.requires.apart in
    grind (arith, common_steps, reached, at, cover_join c.loop-last.run r (drop (i + 1) runs))
