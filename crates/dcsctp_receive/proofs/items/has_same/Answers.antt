use Rattle.std.proofs.Common.{ap, ◌∙◌}
use Rattle.std.specs.Option.{is_some}
use Rattle.dcsctp_borrowed.specs.Part.{part_of, item_of}
use Rattle.dcsctp_receive.specs.Chunks.{items_of, is_same}
use Rattle.dcsctp_receive.proofs.ItemLists.{is_found}
use Rattle.dcsctp_receive.proofs.items.has_same.Goals as goal

pub returns-in-Some : goal.returns-in-Some
returns-in-Some c =
    ap is_some c.in-Some.ensures
    ∙ is_found (is_same (item_of c.args.item)) (items_of (part_of c.args.list))

pub returns-in-None : goal.returns-in-None
returns-in-None c =
    ap is_some c.in-None.ensures
    ∙ is_found (is_same (item_of c.args.item)) (items_of (part_of c.args.list))
