use Rattle.std.proofs.Common.{◌+◌, ◌∙◌, ℕ, List, ap, arith, length, length-append, length-take, take}
use Rattle.dcsctp_tlv.specs.Image.{put}
use Rattle.dcsctp_buffer.proofs.Extended.{then_put}
use Rattle.dcsctp_registry.proofs.value_bytes.ValueBytesWritableItem.put_value.Goals as goal

pub returns : goal.returns
returns c =
    let i = c.self.inside in
    let front : List ℕ = take i.front_size i.front in
    let all = ap length c.self.view_is in
    let sum = length-append front i.rest.now in
    let len = length-take i.front_size i.front in
    let old = c.args.output.now in
    let place = c.args.place in
    then_put old c.put_some.new.output c.put_some-2.new.output place (place + i.front_size) front i.rest.now
    (omega (arith, c.requires.room, all)) c.put_some.ensures c.put_some-2.ensures (omega (arith, len, c.self.invariant))
    ∙ ap (put old place) c.self.view_is
