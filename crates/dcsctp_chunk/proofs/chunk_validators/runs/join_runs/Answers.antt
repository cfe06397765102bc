-- Each step puts in the last of the others that are left; the move at the end closes the gap.
use Rattle.std.proofs.{Common.{◌+◌, ◌-◌, get_or, take, drop, arith}, lemmas.Grind.{common_steps}}
use Rattle.dcsctp_chunk.{specs.Apart.{after}, proofs.Covers.{zero_block, cover_append, cover_cons}, proofs.Apart.{after_take, apart_at, apart_weaker}}
use Rattle.dcsctp_chunk.proofs.chunk_validators.runs.join_runs.Goals as goal

pub put_by_walk-gap-requires : goal.put_by_walk-gap-requires
put_by_walk-gap-requires c =
    let others = c.args.others.now in
    let i = c.loop-left.left - 1 in
    grind (arith, after_take, apart_at 0 i i others zero_block c.requires.others_apart)

pub loop-left-preserved : goal.loop-left-preserved
loop-left-preserved c =
    let others = c.args.others.now in
    let i = c.loop-left.left - 1 in
    let b = get_or others i zero_block in
    let high = drop c.put_by_walk-gap.result.high c.put_by_walk-gap.new.runs in
    grind (
      arith,
      common_steps,
      cover_append,
      cover_cons,
      apart_at 0 i i others zero_block c.requires.others_apart,
      apart_weaker (after 0 (take i others)) (b.end + 2) high,
    )
