use Rattle.dump_capture.proofs.Sent.{sent_found_ipv6}
use Rattle.dump_capture.proofs.laws.sent_ipv6.Goals as goal

pub returns : goal.returns
returns c = sent_found_ipv6
