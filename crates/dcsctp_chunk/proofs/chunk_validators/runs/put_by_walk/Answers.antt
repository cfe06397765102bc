-- On both sides of the gap are what `last_place` promised, and what the walk left past the gap.
use Rattle.std.proofs.{Common.{◌∷◌, ◌++◌, [], take, drop, arith}, lemmas.Grind.{common_steps}}
use Rattle.dcsctp_chunk.proofs.{Apart.{apart_parts, after_append}, Placed.{below_gap}}
use Rattle.dcsctp_chunk.proofs.chunk_validators.runs.put_by_walk.Goals as goal

pub last_place-place-requires-clause-apart : goal.last_place-place-requires-clause-apart
last_place-place-requires-clause-apart c =
    let xs = c.lift_past-past.new.runs in
    let past = c.lift_past-past.result in
    (apart_parts 0 (take past.low xs) (drop past.high xs)
    (rw c.lift_past-past.ensures.runs c.requires.apart)).0

pub returns-clause-runs : goal.returns-clause-runs
returns-clause-runs c =
    let xs = c.lift_past-past.new.runs in
    let past = c.lift_past-past.result in
    let place = c.last_place-place.result in
    let low = take past.low xs in
    let front = take place.first low in
    let said = c.last_place-place.ensures in
    let put = below_gap low (drop past.high xs) (front ++ (place.run ∷ [])) c.args.block
    (rw c.lift_past-past.ensures.runs c.requires.apart) c.lift_past-past.ensures.below said.runs
    (rw (after_append 0 front (place.run ∷ [])) said.last) in
    grind (arith, common_steps, put)
