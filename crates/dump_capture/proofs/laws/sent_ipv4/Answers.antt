use Rattle.dump_capture.proofs.Sent.{sent_found}
use Rattle.dump_capture.proofs.laws.sent_ipv4.Goals as goal

pub returns : goal.returns
returns c = sent_found
