-- Blocks that are apart are runs already; of others `gather` leaves the runs in front.
use Rattle.std.proofs.Common.{length, refl, arith, take_all}
use Rattle.dcsctp_chunk.proofs.Runs.{cleaned_from_cover, cleaned_if_apart}
use Rattle.dcsctp_chunk.proofs.chunk_validators.clean.clean_in_place.Goals as goal

pub returns-then-are_apart-clause-cleaned : goal.returns-then-are_apart-clause-cleaned
returns-then-are_apart-clause-cleaned c =
    let said = c.if-are_apart.ensures in
    rw (take_all (length c.args.blocks.now) c.args.blocks.now (omega arith))
    (cleaned_if_apart c.args.blocks.now said.ends (said.apart.0 refl)).0

pub returns-then-are_apart-clause-laws : goal.returns-then-are_apart-clause-laws
returns-then-are_apart-clause-laws c =
    let said = c.if-are_apart.ensures in
    rw (take_all (length c.args.blocks.now) c.args.blocks.now (omega arith))
    (cleaned_if_apart c.args.blocks.now said.ends (said.apart.0 refl)).1

pub returns-clause-cleaned : goal.returns-clause-cleaned
returns-clause-cleaned c =
    (cleaned_from_cover c.if-are_apart.ensures.ends c.gather.ensures.runs).0

pub returns-clause-laws : goal.returns-clause-laws
returns-clause-laws c =
    (cleaned_from_cover c.if-are_apart.ensures.ends c.gather.ensures.runs).1
