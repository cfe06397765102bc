use Rattle.std.proofs.Common.{sym, ap₂, ◌∙◌}
use Rattle.std.specs.List.{list_any}
use Rattle.dcsctp_borrowed.specs.Part.{Part, part_of}
use Rattle.dcsctp_receive.specs.{Chunks.{items_of}, Unrecognized.{wholes}, Restart.{is_new}, Handling.{address_action}}
use Rattle.dcsctp_receive.proofs.NewAddresses.{listed, some_listed, none_listed}
use Rattle.dcsctp_receive.proofs.restart.adds_addresses.Goals as goal

pub returns-in-Some : goal.returns-in-Some
returns-in-Some c =
    let known = items_of (part_of c.list_part.result) in
    let items = items_of (part_of c.list_part-2.result) in
    sym (some_listed (is_new known) items c.in-Some.field-0.whole.bytes.now
    (wholes (address_action known) (items_of (part_of c.in-Some.field-0.left)))
    (sym (listed known items) ∙ c.in-Some.ensures.found))
    ∙ ap₂ (λ (p q : Part). list_any (is_new (items_of p)) (items_of q))
    c.list_part.ensures c.list_part-2.ensures

pub returns-in-None : goal.returns-in-None
returns-in-None c =
    let known = items_of (part_of c.list_part.result) in
    let items = items_of (part_of c.list_part-2.result) in
    sym (none_listed (is_new known) items (sym (listed known items) ∙ c.in-None.ensures.none))
    ∙ ap₂ (λ (p q : Part). list_any (is_new (items_of p)) (items_of q))
    c.list_part.ensures c.list_part-2.ensures
