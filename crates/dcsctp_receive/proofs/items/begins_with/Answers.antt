use Rattle.std.proofs.Common.{sym, ap}
use Rattle.dcsctp_borrowed.specs.Part.{part_of, item_of}
use Rattle.dcsctp_receive.specs.Chunks.{begins_with}
use Rattle.dcsctp_receive.proofs.ItemLists.{items_end, begins_with_first}
use Rattle.dcsctp_receive.proofs.items.begins_with.Goals as goal

pub returns-in-Some : goal.returns-in-Some
returns-in-Some c =
    begins_with_first c.args.typ (part_of c.args.chunks) (item_of c.in-Some.chunk)
    c.in-Some.ensures.0 c.in-Some.ensures.1

pub returns-in-None : goal.returns-in-None
returns-in-None c =
    sym (ap (begins_with c.args.typ) (items_end (part_of c.args.chunks) c.in-None.ensures))
