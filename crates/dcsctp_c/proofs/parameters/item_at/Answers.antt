use Rattle.std.proofs.Common.{refl}
use Rattle.dcsctp_c.proofs.Places.{listed_there}
use Rattle.dcsctp_c.proofs.parameters.item_at.Goals as goal

pub returns-clause-read : goal.returns-clause-read
returns-clause-read c =
    let frame = rw c.split_at.ensures.back at c.in-Ok.ensures.frame.0 refl in
    let value = rw c.split_at.ensures.back at c.in-Ok.ensures.value in
    let rest = rw c.split_at.ensures.back at c.in-Ok.ensures.rest in
    let typ = rw c.split_at.ensures.back at c.read_u16_be.ensures in
    listed_there c.args.bytes.now c.args.offset c.read_u16_be.result c.in-Ok.value.now
    c.in-Ok.rest.now (λ i. (c.type_inv.bytes i).fits) frame typ value rest
