use Rattle.dcsctp_borrowed.proofs.PacketItems.{one_list}
use Rattle.dcsctp_borrowed.proofs.laws.one_list.Goals as goal

pub returns : goal.returns
returns c = one_list
