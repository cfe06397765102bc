-- One block more, or one that covers nothing.
use Rattle.std.proofs.Common.{◌+◌, take, get_or, arith}
use Rattle.dcsctp_chunk.proofs.{Covers.{zero_block, cover_cons, cover_last, cover_reversed}, chunk_validators.clean.gather.Goals.{then-block, else-block}}
use Rattle.dcsctp_chunk.proofs.chunk_validators.clean.gather.Goals as goal

pub loop-i-preserved : goal.loop-i-preserved
loop-i-preserved c =
    let old = c.turn_falling.new.blocks in
    let i = c.loop-i.i in
    let inv = c.loop-i.invariant in
    let room = inv.room in
    let block = get_or old i zero_block in
    let same = inv.rest i zero_block (omega arith) in
    let one = cover_last old i (i + 1) zero_block (omega arith) (omega arith) in
    elim c.if-block.branch [
      | then-block w ↦ grind (arith, same, one, cover_cons, w.add_block-counts.ensures, inv)
      | else-block w ↦ grind (arith, same, one, cover_reversed block (take i old), inv)
    ]
