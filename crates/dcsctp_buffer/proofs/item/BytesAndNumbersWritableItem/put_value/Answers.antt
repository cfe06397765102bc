use Rattle.std.{proofs.Common.{arith, ◌+◌, ◌∙◌, refl, length, ap, map-id}, specs.Int.{w16, to_be_bytes}, specs.List.{flat_map}}
use Rattle.dcsctp_tlv.{specs.Image.{put}, specs.Number.{numbers}}
use Rattle.dcsctp_buffer.proofs.Extended.{then_put, length-item_value}
use Rattle.dcsctp_buffer.proofs.item.BytesAndNumbersWritableItem.put_value.Goals as goal

pub put_fields-requires-clause-room : goal.put_fields-requires-clause-room
put_fields-requires-clause-room c =
    let len = length-item_value c.args.self.now.leading.now c.args.self.now.numbers.now in
    omega (arith, len, c.requires.room, c.put_bytes.auto.output)

pub returns : goal.returns
returns c =
    let leading = c.args.self.now.leading.now in
    let words = c.args.self.now.numbers.now in
    then_put c.args.output.now c.put_bytes.new.output c.put_fields.new.output c.args.place
    (c.args.place + length leading) leading (numbers w16 words)
    (omega (arith, c.requires.room)) c.put_bytes.ensures
    (c.put_fields.ensures ∙ ap (put c.put_bytes.new.output (c.args.place + length leading))
    (ap (flat_map (to_be_bytes w16)) (map-id words))) refl
