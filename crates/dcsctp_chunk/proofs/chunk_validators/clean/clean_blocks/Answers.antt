-- Blocks that are apart are runs already; of others `gather` leaves the runs in front.
use Rattle.std.proofs.{Common.{◌≡◌, take, refl, arith}, lemmas.Grind.{common_steps}}
use Rattle.dcsctp_chunk.proofs.Runs.{cleaned_from_cover, cleaned_if_apart}
use Rattle.dcsctp_chunk.proofs.chunk_validators.clean.clean_blocks.Goals as goal

pub returns-then-are_apart-clause-laws : goal.returns-then-are_apart-clause-laws
returns-then-are_apart-clause-laws c =
    let said = rw c.deref.ensures.value at c.if-are_apart.ensures in
    (cleaned_if_apart c.args.blocks.now.items said.ends (said.apart.0 refl)).1

pub returns-clause-cleaned : goal.returns-clause-cleaned
returns-clause-cleaned c =
    let left : c.truncate.new.self.items ≡ take c.gather-kept.result c.gather-kept.new.blocks =
    grind (arith, common_steps) in
    let ends = (rw c.deref.ensures.value at c.if-are_apart.ensures).ends in
    rw left (cleaned_from_cover ends (rw c.deref_mut.ensures.value at c.gather-kept.ensures.runs)).0

pub returns-clause-laws : goal.returns-clause-laws
returns-clause-laws c =
    let left : c.truncate.new.self.items ≡ take c.gather-kept.result c.gather-kept.new.blocks =
    grind (arith, common_steps) in
    let ends = (rw c.deref.ensures.value at c.if-are_apart.ensures).ends in
    rw left (cleaned_from_cover ends (rw c.deref_mut.ensures.value at c.gather-kept.ensures.runs)).1
