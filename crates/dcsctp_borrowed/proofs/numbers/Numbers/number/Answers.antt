use Rattle.std.proofs.{Common.{◌<◌, ◌*◌, ℕ, List, length, Some, sym, ap, ◌∙◌, arith}, lemmas.List.{take_rest}}
use Rattle.dcsctp_tlv.specs.Number.{number16}
use Rattle.dcsctp_borrowed.proofs.FieldLists.{field_count, field_at_place}
use Rattle.dcsctp_borrowed.proofs.numbers.Numbers.number.Goals as goal

pub returns : goal.returns
returns c =
    let n = c.self.inside in
    let bytes = n.bytes.now in
    let i = c.args.index in
    let size = ap (λ (l : List ℕ). length l) c.self.view_is in
    let here : i < n.count =
    omega (arith, field_count number16 2 n.count bytes, size, c.requires) in
    rw (← c.self.view_is) (field_at_place number16 2 n.count bytes i here
    ∙ ap Some (sym (c.read_u16_be.ensures ∙ ap number16 (take_rest bytes (2 * i)))))
