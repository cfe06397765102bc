use Rattle.std.proofs.Common.{rules, arith, ℕ, ◌≡◌, ◌-◌, ◌+◌, ◌∙◌, ap, List, length, drop}
use Rattle.std.specs.Int.{w16, to_be_bytes}
use Rattle.dcsctp_tlv.specs.{Frame.{round_up_to_4, frame_length}, Image.{put}}
use Rattle.dcsctp_buffer.{specs.Item.{IsLastChunk, HasItemRoom, extended_length, padded_item}, proofs.Extended.{extends}, proofs.Longer.{extends_parameters, extends_causes, makes_error}}
use Rattle.dcsctp_buffer.proofs.item.add_written.Goals as goal

pub put_padded_item-requires-clause-room : goal.put_padded_item-requires-clause-room
put_padded_item-requires-clause-room g c =
    let last : IsLastChunk c.args.buffer.now c.args.size.now c.args.start = search rules in
    let len = c.value_size-value_size.ensures in
    omega (
      arith,
      last.ends,
      last.begun.within,
      len,
      c.chunk_length-old_length.ensures.result,
      c.round_up_to_4-padded_size.ensures,
      c.min.ensures,
      c.put_u16.auto.output,
    )

pub returns-clause-added : goal.returns-clause-added
returns-clause-added g c added =
    let buffer = c.args.buffer.now in
    let start = c.args.start in
    let value = g.I.WritableItem.value c.args.item.now in
    let last : IsLastChunk buffer c.args.size.now start = search rules in
    let len = c.value_size-value_size.ensures in
    let is = c.chunk_length-old_length.ensures.result in
    let padded : c.round_up_to_4-padded_size.result ≡ round_up_to_4 (4 + length value) =
    c.round_up_to_4-padded_size.ensures ∙ ap (λ (n : ℕ). round_up_to_4 (4 + n)) len in
    let longer : c.args.size.now - start + 4 + c.value_size-value_size.result
    ≡ extended_length buffer start value = omega (arith, last.ends, len) in
    let room : HasItemRoom buffer c.args.size.now start value = record {
      place = last;
      extensible = omega (arith, longer, last.begun.whole);
      within = omega (arith, padded, c.min.ensures, last.begun.within);
      whole = omega (arith, padded, c.min.ensures, last.begun.whole);
    } in
    let end = ap (λ (n : ℕ). c.args.size.now + n) padded in
    let bytes : c.put_padded_item.new.output
    ≡ put (put buffer (start + 2) (to_be_bytes w16 (extended_length buffer start value)))
    (start + frame_length (drop start buffer)) (padded_item (frame_length (drop start buffer))
    c.args.typ value) =
    c.put_padded_item.ensures
    ∙ ap (λ (xs : List ℕ). put xs (start + c.chunk_length-old_length.result)
    (padded_item c.chunk_length-old_length.result c.args.typ value)) (c.put_u16.ensures
    ∙ ap (λ (n : ℕ). put buffer (start + 2) (to_be_bytes w16 n)) longer)
    ∙ ap (λ (n : ℕ). put (put buffer (start + 2) (to_be_bytes w16 (extended_length buffer start
    value))) (start + n) (padded_item n c.args.typ value)) is in
    record {
      size = end;
      bytes = bytes;
      held = λ m t before now. extends buffer c.put_padded_item.new.output c.args.size.now start
          (c.args.size.now + c.round_up_to_4-padded_size.result) c.args.typ value m t room
          c.bytes_in_width.ensures bytes end before now;
    }

pub returns-clause-parameters : goal.returns-clause-parameters
returns-clause-parameters g c added =
    let value = g.I.WritableItem.value c.args.item.now in
    let len = c.value_size-value_size.ensures in
    extends_parameters c.args.typ value (omega (arith, len))

pub returns-clause-causes : goal.returns-clause-causes
returns-clause-causes g c added =
    let value = g.I.WritableItem.value c.args.item.now in
    let len = c.value_size-value_size.ensures in
    extends_causes c.args.typ value (omega (arith, len))

pub returns-clause-error : goal.returns-clause-error
returns-clause-error g c added =
    let value = g.I.WritableItem.value c.args.item.now in
    let len = c.value_size-value_size.ensures in
    makes_error c.args.typ value (omega (arith, len))
