-- The run lies in the place of those that it takes in, and after them all is free.
use Rattle.std.proofs.Common.{arith, length-take-le}
use Rattle.dcsctp_chunk.proofs.Placed.{put_free}
use Rattle.dcsctp_chunk.proofs.chunk_validators.runs.insert.Goals as goal

pub make_free_from-requires-clause-free : goal.make_free_from-requires-clause-free
make_free_from-requires-clause-free c =
    let place = c.find_place-place.result in
    let long = length-take-le c.args.kept c.args.runs.now (omega arith) in
    let said = c.move_within.ensures in
    put_free c.args.runs.now c.move_within.new.blocks place.run place.first place.last c.args.kept
    c.min-end.result (omega arith) (omega arith) (omega arith) c.requires.free (omega arith)
    said.moved said.rest
