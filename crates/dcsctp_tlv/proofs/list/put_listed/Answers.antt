use Rattle.std.proofs.{Common.{arith, ap, ◌∙◌, ◌≡◌, ◌++◌, ◌+◌, ℕ, List, length, drop, map, append-nil}, Math.ListN.{drop_of_length-le}}
use Rattle.dcsctp_tlv.{specs.Format.{tlv_by}, specs.Frame.{header}, specs.Image.{solid, written, listed_tlv, list_image}, proofs.Listed.{list_size-view, list_image-view, list_encodable, written_front, written_headed}}
use Rattle.dcsctp_tlv.proofs.list.put_listed.Goals as goal

pub put_list-size-requires-clause-encodable : goal.put_list-size-requires-clause-encodable
put_list-size-requires-clause-encodable g c =
    let size = list_size-view _ _ g.T.ListedTlv.tree_tlv g.met.T.ListedTlv.same_tlv in
    list_encodable _ _ g.met.T.ListedTlv.all_placed c.args.list.now
    (omega (arith, size, c.requires.encodable))

pub put_list-size-requires-clause-room : goal.put_list-size-requires-clause-room
put_list-size-requires-clause-room g c =
    let size = list_size-view _ _ g.T.ListedTlv.tree_tlv g.met.T.ListedTlv.same_tlv in
    omega (
      arith,
      size,
      c.requires.room,
      c.split_at_mut-header.ensures.back_len,
      c.split_at_mut-front.ensures.back_len,
    )

pub overflow_add-leading : goal.overflow_add-leading
overflow_add-leading g c =
    let size = list_size-view _ _ g.T.ListedTlv.tree_tlv g.met.T.ListedTlv.same_tlv in
    record { fits = omega (arith, size, c.put_list-size.ensures.size, c.requires.encodable) }

pub put_header-requires-clause-encodable : goal.put_header-requires-clause-encodable
put_header-requires-clause-encodable g c =
    let size = list_size-view _ _ g.T.ListedTlv.tree_tlv g.met.T.ListedTlv.same_tlv in
    omega (arith, size, c.put_list-size.ensures.size, c.requires.encodable)

pub returns : goal.returns
returns g c =
    let s = g.T.SerializableTlv in
    let l = g.T.ListedTlv in
    let law = g.met.T.ListedTlv in
    let trees = map l.view c.args.list.now in
    let front = c.args.leading.now in
    let value = c.split_at_mut-header.result.1.now in
    let tlv = listed_tlv c.args.first c.args.second front l.tree_tlv trees in
    let image = list_image l.tree_tlv trees in
    let size = c.put_list-size.ensures.size ∙ list_size-view (tlv_by s.format) l.view l.tree_tlv
    law.same_tlv c.args.list.now in
    let list : c.put_list-size.new.output ≡ written image (drop (length front) value) =
    c.put_list-size.ensures.written
    ∙ ap (λ (i : _). written i c.split_at_mut-front.result.1.now) (list_image-view (tlv_by s.format)
    l.view l.tree_tlv law.same_tlv c.args.list.now)
    ∙ ap (written image) c.split_at_mut-front.ensures.back in
    let whole : c.copy_from_slice.new.self ++ c.put_list-size.new.output
    ≡ written (solid front ++ image) value =
    ap (λ (xs : List ℕ). xs ++ c.put_list-size.new.output) c.copy_from_slice.ensures.after
    ∙ ap (λ (xs : List ℕ). front ++ xs) list ∙ written_front front image value
    (omega (arith, c.requires.room, c.split_at_mut-header.ensures.back_len)) in
    let headed : c.put_header.new.output ≡ header c.args.first c.args.second tlv.value_size =
    c.put_header.ensures
    ∙ ap (λ (n : ℕ). header c.args.first c.args.second n
    ++ drop 4 c.split_at_mut-header.result.0.now) (ap (λ (n : ℕ). length front + n) size)
    ∙ ap (λ (xs : List ℕ). header c.args.first c.args.second tlv.value_size ++ xs)
    (drop_of_length-le c.split_at_mut-header.result.0.now {i = 4}
    (omega (arith, c.split_at_mut-header.ensures.front_len)))
    ∙ append-nil (header c.args.first c.args.second tlv.value_size) in
    written_headed tlv c.args.output.now c.put_header.new.output (c.copy_from_slice.new.self
    ++ c.put_list-size.new.output) headed (whole ∙ ap (written (solid front ++ image))
    c.split_at_mut-header.ensures.back) (omega (arith, c.requires.room))
