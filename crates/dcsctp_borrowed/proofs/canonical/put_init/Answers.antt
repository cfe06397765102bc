use Rattle.dcsctp_borrowed.proofs.PutsRewritten.{rest_is, front_is, back_is}
use Rattle.dcsctp_borrowed.proofs.canonical.put_init.Goals as goal

pub put_listed-requires-clause-encodable : goal.put_listed-requires-clause-encodable
put_listed-requires-clause-encodable c =
    let value = c.args.value.now in
    let k = c.min-place.result in
    let place = c.min-place.ensures in
    rw (front_is 16 k value place, rest_is k value, back_is 16 k value place) c.requires.encodable

pub put_listed-requires-clause-room : goal.put_listed-requires-clause-room
put_listed-requires-clause-room c =
    let value = c.args.value.now in
    let k = c.min-place.result in
    let place = c.min-place.ensures in
    rw (front_is 16 k value place, rest_is k value, back_is 16 k value place) c.requires.room

pub returns : goal.returns
returns c =
    let value = c.args.value.now in
    let k = c.min-place.result in
    let place = c.min-place.ensures in
    rw (front_is 16 k value place, rest_is k value, back_is 16 k value place)
    at c.put_listed.ensures
