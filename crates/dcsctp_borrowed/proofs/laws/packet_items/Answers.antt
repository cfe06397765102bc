use Rattle.dcsctp_borrowed.proofs.PacketItems.{packet_items}
use Rattle.dcsctp_borrowed.proofs.laws.packet_items.Goals as goal

pub returns : goal.returns
returns c = packet_items
