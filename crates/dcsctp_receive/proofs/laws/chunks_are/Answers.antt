use Rattle.dcsctp_borrowed.{specs.{Grammar.{whole, items_of_frames}, Part.{after}}, proofs.PacketItems.{one_list, packet_items}}
use Rattle.dcsctp_receive.specs.Chunks.{items_of}
use Rattle.dcsctp_receive.proofs.ItemLists.{are_items}
use Rattle.dcsctp_receive.proofs.laws.chunks_are.Goals as goal

pub returns-clause-items : goal.returns-clause-items
returns-clause-items c = are_items

pub returns-clause-one : goal.returns-clause-one
returns-clause-one c = λ p items are. one_list p items (items_of p) are (are_items p)

pub returns-clause-packet : goal.returns-clause-packet
returns-clause-packet c = λ bytes word policy packet fits answer.
    let p = after 12 (whole bytes) in
    let found = packet_items bytes word policy packet fits answer in
    (found.0, one_list p (items_of p) (items_of_frames found.0) (are_items p) found.1, found.2)
