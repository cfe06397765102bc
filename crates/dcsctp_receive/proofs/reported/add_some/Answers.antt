use Rattle.std.proofs.Common.{refl, arith}
use Rattle.dcsctp_borrowed.specs.Part.{part_of}
use Rattle.dcsctp_receive.specs.{Chunks.{items_of}, Unrecognized.{wholes}, Handling.{action_by}}
use Rattle.dcsctp_receive.proofs.AddedItems.{causes_have_room}
use Rattle.dcsctp_receive.proofs.reported.add_some.Goals as goal

pub add_all-requires : goal.add_all-requires
add_all-requires c =
    causes_have_room c.args.buffer.now c.add.new.buffer c.args.size.now c.add.new.size
    (wholes (action_by c.args.handling) (items_of (part_of c.args.list))) c.requires
    (omega (arith, c.add.auto.buffer)) (c.in_ok-add.ensures.added refl)
