use Rattle.std.proofs.{Common.{arith, ap, ◌∙◌, ◌≡◌, ◌++◌, ◌+◌, ℕ, List, length, drop, append-nil}, Math.ListN.{drop_of_length-le}}
use Rattle.dcsctp_tlv.{specs.Frame.{header}, specs.Image.{solid, written, list_image}, proofs.Listed.{written_front, written_headed}}
use Rattle.dcsctp_borrowed.specs.Rewritten.{item_again, items_of, listed_again}
use Rattle.dcsctp_borrowed.proofs.canonical.put_listed.Goals as goal

pub returns : goal.returns
returns g c =
    let again = g.R.Rewrite.again in
    let front = c.args.leading.now in
    let value = c.split_at_mut-header.result.1.now in
    let tlv = listed_again again c.args.typ c.args.flags front c.args.list.now in
    let image = list_image (item_again again) (items_of c.args.list.now) in
    let list : c.put_items-size.new.output ≡ written image (drop (length front) value) =
    c.put_items-size.ensures.written ∙ ap (written image) c.split_at_mut-front.ensures.back in
    let whole : c.copy_from_slice.new.self ++ c.put_items-size.new.output
    ≡ written (solid front ++ image) value =
    ap (λ (xs : List ℕ). xs ++ c.put_items-size.new.output) c.copy_from_slice.ensures.after
    ∙ ap (λ (xs : List ℕ). front ++ xs) list ∙ written_front front image value
    (omega (arith, c.requires.room, c.split_at_mut-header.ensures.back_len)) in
    let headed : c.put_header.new.output ≡ header c.args.typ c.args.flags tlv.value_size =
    c.put_header.ensures
    ∙ ap (λ (n : ℕ). header c.args.typ c.args.flags n
    ++ drop 4 c.split_at_mut-header.result.0.now)
    (ap (λ (n : ℕ). length front + n) c.put_items-size.ensures.size)
    ∙ ap (λ (xs : List ℕ). header c.args.typ c.args.flags tlv.value_size ++ xs)
    (drop_of_length-le c.split_at_mut-header.result.0.now {i = 4}
    (omega (arith, c.split_at_mut-header.ensures.front_len)))
    ∙ append-nil (header c.args.typ c.args.flags tlv.value_size) in
    written_headed tlv c.args.output.now c.put_header.new.output (c.copy_from_slice.new.self
    ++ c.put_items-size.new.output) headed (whole ∙ ap (written (solid front ++ image))
    c.split_at_mut-header.ensures.back) (omega (arith, c.requires.room))
