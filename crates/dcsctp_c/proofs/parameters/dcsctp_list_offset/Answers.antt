use Rattle.std.proofs.Common.{arith}
use Rattle.dcsctp_c.proofs.Places.{list_there, lists_there}
use Rattle.dcsctp_c.proofs.parameters.dcsctp_list_offset.Goals as goal

pub returns-clause-list : goal.returns-clause-list
returns-clause-list c =
    list_there c.args.chunk.now c.list_place.result c.saturating_add.result
    c.list_place.ensures.within (λ fits. omega (arith, fits)) c.list_place.ensures.bytes

pub returns-clause-lists : goal.returns-clause-lists
returns-clause-lists c =
    lists_there c.args.chunk.now c.list_place.result c.saturating_add.result
    c.list_place.ensures.within (λ fits. omega (arith, fits)) c.list_place.ensures.bytes
