-- Each step of the walk down takes in a run, which starts early enough, since the last one does.
use Rattle.std.proofs.{Common.{◌-◌, length, get_or, take, arith}, lemmas.Grind.{common_steps}}
use Rattle.dcsctp_chunk.proofs.{Covers.{zero_block, cover_cons, cover_last, cover_join}, Apart.{apart_at, apart_order, after_each}}
use Rattle.dcsctp_chunk.proofs.chunk_validators.runs.last_place.Goals as goal

pub loop-first-preserved : goal.loop-first-preserved
loop-first-preserved c =
    let runs = c.args.runs.now in
    let i = c.loop-first.first - 1 in
    let last = length runs - 1 in
    grind (
      arith,
      common_steps,
      cover_cons,
      c.requires.near zero_block,
      apart_order 0 i last runs zero_block c.requires.apart,
      apart_at 0 i i runs zero_block c.requires.apart,
      after_each 0 i runs zero_block c.requires.apart,
      cover_last runs i c.loop-first.first zero_block,
      cover_join c.loop-first.run (get_or runs i zero_block) (take i runs),
    )
