use Rattle.std.proofs.Common.{arith, refl, ap, ◌∙◌, ◌≡◌}
use Rattle.dcsctp_tlv.{specs.Image.{size_of, image_of, list_size, list_image, written}, proofs.Items.{front_item}, proofs.Lengths.{length-image_of}, proofs.Listed.{written_length}}
use Rattle.dcsctp_borrowed.{specs.Rewritten.{item_again}, proofs.ItemsRewritten.{written_none, next_room, written_next, over_all}}
use Rattle.dcsctp_borrowed.proofs.canonical.put_items.Goals as goal

pub loop-value-init : goal.loop-value-init
loop-value-init g c = written_none g.R.Rewrite.again c.args.list.now c.args.output.now

pub returns : goal.returns
returns g c =
    let over = c.loop-value.invariant.over in
    let all = over_all g.R.Rewrite.again c.args.list.now c.loop-value.rest.now c.loop-value.end over
    (λ frame. (let ok = c.in_default.ensures.frame.1 frame in cc)) in
    record {
      written = c.loop-value.invariant.done
          ∙ ap (λ (is : _). written (list_image (item_again g.R.Rewrite.again) is)
          c.args.output.now) all;
      size = over.size ∙ ap (list_size (item_again g.R.Rewrite.again)) all;
    }

pub round_up_to_4-start-requires : goal.round_up_to_4-start-requires
round_up_to_4-start-requires g c =
    let n = next_room g.R.Rewrite.again c.args.list.now c.loop-value.rest.now c.loop-value.end
    c.loop-value.invariant.over (c.in-Ok.ensures.frame.0 refl) c.requires.encodable in
    omega (arith, n, c.requires.encodable)

pub split_at_mut-place-requires : goal.split_at_mut-place-requires
split_at_mut-place-requires g c =
    let n = next_room g.R.Rewrite.again c.args.list.now c.loop-value.rest.now c.loop-value.end
    c.loop-value.invariant.over (c.in-Ok.ensures.frame.0 refl) c.requires.encodable in
    omega (arith, n, c.requires.room, c.loop-value.auto.output, c.round_up_to_4-start.ensures)

pub put-requires-clause-encodable : goal.put-requires-clause-encodable
put-requires-clause-encodable g c =
    let n = next_room g.R.Rewrite.again c.args.list.now c.loop-value.rest.now c.loop-value.end
    c.loop-value.invariant.over (c.in-Ok.ensures.frame.0 refl) c.requires.encodable in
    rw c.in-Ok.ensures.value (omega (arith, n, c.requires.encodable))

pub put-requires-clause-room : goal.put-requires-clause-room
put-requires-clause-room g c =
    let n = next_room g.R.Rewrite.again c.args.list.now c.loop-value.rest.now c.loop-value.end
    c.loop-value.invariant.over (c.in-Ok.ensures.frame.0 refl) c.requires.encodable in
    rw c.in-Ok.ensures.value (omega (
      arith,
      n,
      c.requires.room,
      c.loop-value.auto.output,
      c.round_up_to_4-start.ensures,
      c.split_at_mut-place.ensures.back_len,
    ))

pub length_field-requires : goal.length_field-requires
length_field-requires g c =
    let n = next_room g.R.Rewrite.again c.args.list.now c.loop-value.rest.now c.loop-value.end
    c.loop-value.invariant.over (c.in-Ok.ensures.frame.0 refl) c.requires.encodable in
    omega (
      arith,
      n,
      c.requires.room,
      c.loop-value.auto.output,
      c.round_up_to_4-start.ensures,
      c.split_at_mut-place.ensures.back_len,
      c.put.auto.output,
    )

pub loop-value-preserved : goal.loop-value-preserved
loop-value-preserved g c =
    let again = g.R.Rewrite.again in
    let rest = c.loop-value.rest.now in
    let frame = c.in-Ok.ensures.frame.0 refl in
    let n = next_room again c.args.list.now rest c.loop-value.end c.loop-value.invariant.over frame
    c.requires.encodable in
    let out : c.put.new.output ≡ written (image_of (item_again again (front_item rest)))
    c.split_at_mut-place.result.1.now = rw c.in-Ok.ensures.value at c.put.ensures in
    let size : c.length_field.result ≡ size_of (item_again again (front_item rest)) =
    c.length_field.ensures ∙ written_length (item_again again (front_item rest)) _ _
    (omega (arith, n, c.requires.encodable))
    (omega (
      arith,
      n,
      c.requires.room,
      c.loop-value.auto.output,
      c.round_up_to_4-start.ensures,
      c.split_at_mut-place.ensures.back_len,
    )) out in
    rw (
      c.in-Ok.ensures.rest,
      c.split_at_mut-place.ensures.front,
      out,
      c.split_at_mut-place.ensures.back,
    )
    (written_next again c.args.list.now rest c.loop-value.end c.loop-value.invariant.over frame
    (λ i. length-image_of (item_again again i)
    (g.met.R.Rewrite.sized i.first i.second i.value))
    c.args.output.now c.loop-value.output c.loop-value.invariant.done _ _
    c.round_up_to_4-start.ensures (omega (arith, size, c.round_up_to_4-start.ensures)))
