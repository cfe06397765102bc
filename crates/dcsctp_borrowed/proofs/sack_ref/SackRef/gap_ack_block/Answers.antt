use Rattle.std.proofs.{Common.{◌<◌, ◌*◌, length, Some, sym, ap, ◌∙◌, arith}, lemmas.List.{take_rest}}
use Rattle.dcsctp_chunk.specs.Sack.{Tree, block_at}
use Rattle.dcsctp_borrowed.proofs.FieldLists.{field_count, field_at_place}
use Rattle.dcsctp_borrowed.proofs.sack_ref.SackRef.gap_ack_block.Goals as goal

pub returns : goal.returns
returns c =
    let s = c.self.inside in
    let bytes = s.lists.now in
    let blocks = ap (λ (t : Tree). length t.blocks) c.self.view_is in
    let here : c.args.index < s.numbers.gap_ack_block_count =
    omega (arith, field_count block_at 4 s.numbers.gap_ack_block_count bytes, blocks, c.requires) in
    rw (← c.self.view_is) (field_at_place block_at 4 s.numbers.gap_ack_block_count bytes c.args.index here
    ∙ ap Some (sym (c.read.ensures ∙ ap block_at (take_rest bytes (4 * c.args.index)))))
