use Rattle.std.proofs.Common.{◌-◌, arith}
use Rattle.dcsctp_chunk.proofs.{Apart.{past_gap}, Placed.{lifted}}
use Rattle.dcsctp_chunk.proofs.chunk_validators.runs.lift.Goals as goal

pub returns-clause-from : goal.returns-clause-from
returns-clause-from c n d l =
    let gap = c.args.gap in
    let first = c.copy_within.ensures.by_index.0 0 d in
    past_gap c.copy_within.new.self (gap.low - c.args.count) (gap.high - c.args.count) n d
    (grind (arith, lifted, c.requires.apart)) (λ some. grind (arith, first))
