use Rattle.dcsctp_borrowed.proofs.PutsRewritten.{rest_is, front_is, back_is}
use Rattle.dcsctp_borrowed.proofs.canonical.init_size.Goals as goal

pub returns : goal.returns
returns c =
    let value = c.args.value.now in
    let k = c.min-place.result in
    let place = c.min-place.ensures in
    rw (front_is 16 k value place, rest_is k value, back_is 16 k value place)
    at c.listed_size.ensures
