use Rattle.std.{proofs.Common.{arith, ℕ, ◌≡◌, ◌+◌, ◌-◌, ◌∙◌, List, refl, length, replicate, ap}, proofs.lemmas.List.{length-replicate}}
use Rattle.dcsctp_tlv.{specs.Frame.{typed_header}, specs.Image.{gap, put}}
use Rattle.dcsctp_buffer.{proofs.Extended.{four_put}}
use Rattle.dcsctp_buffer.proofs.item.put_padded_item.Goals as goal

pub returns : goal.returns
returns g c =
    let value = g.I.WritableItem.value c.args.item.now in
    let size = c.args.size in
    let len = c.value_size-value_size.ensures in
    let up = c.round_up_to_4.ensures in
    let up2 = c.round_up_to_4-2.ensures in
    let a : List ℕ = replicate (gap size) 0 in
    let b : List ℕ = typed_header c.args.typ (length value) in
    let e : List ℕ = replicate (gap (4 + length value)) 0 in
    let a_len = length-replicate {A = ℕ} (gap size) 0 in
    let begin = c.args.place + (c.round_up_to_4.result - size) in
    let fourth = begin + (4 + c.value_size-value_size.result) in
    let before : begin - c.args.place ≡ gap size = omega arith in
    let after : c.round_up_to_4-2.result - (4 + c.value_size-value_size.result)
    ≡ gap (4 + length value) = omega (arith, len) in
    four_put c.args.output.now c.put_zeros.new.output c.put_bytes.new.output
    c.put_value.new.output c.put_zeros-2.new.output c.args.place begin (begin + 4) fourth a b value
    e (omega (arith, c.requires.room))
    (c.put_zeros.ensures
    ∙ ap (λ (n : ℕ). put c.args.output.now c.args.place (replicate n 0)) before)
    (c.put_bytes.ensures ∙ ap (put c.put_zeros.new.output begin)
    (c.item_header-header.ensures ∙ ap (typed_header c.args.typ) len))
    c.put_value.ensures
    (c.put_zeros-2.ensures
    ∙ ap (λ (n : ℕ). put c.put_value.new.output fourth (replicate n 0)) after)
    (omega (arith, a_len)) refl (omega (arith, len))
