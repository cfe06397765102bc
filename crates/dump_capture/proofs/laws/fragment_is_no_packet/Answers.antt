use Rattle.dump_capture.proofs.FirstFault.{is_no_packet}
use Rattle.dump_capture.proofs.laws.fragment_is_no_packet.Goals as goal

pub returns : goal.returns
returns c = is_no_packet
