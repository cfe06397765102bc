use Rattle.dump_capture.proofs.JoinedPackets.{joined_ipv4, joined_ipv6}
use Rattle.dump_capture.proofs.laws.joined_packet.Goals as goal

pub returns : goal.returns
returns c = record { ipv4 = joined_ipv4; ipv6 = joined_ipv6 }
