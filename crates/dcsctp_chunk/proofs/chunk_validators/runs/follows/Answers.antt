use Rattle.std.proofs.{Common.{length, arith, ltb-true}, lemmas.Grind.{common_steps}}
use Rattle.dcsctp_chunk.proofs.{Covers.{zero_block}, Apart.{apart_push}}
use Rattle.dcsctp_chunk.proofs.chunk_validators.runs.follows.Goals as goal

pub returns-in-Some : goal.returns-in-Some
returns-in-Some c t =
    let runs = c.args.runs.now in
    let last = c.in-Some.ensures.item.3.1 zero_block in
    let early = ltb-true _ _ t in
    grind (arith, common_steps, last, early, apart_push runs c.args.block (length runs))
