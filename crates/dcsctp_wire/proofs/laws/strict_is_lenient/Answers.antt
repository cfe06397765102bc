use Rattle.dcsctp_wire.proofs.Lenient.{lenient_answer}
use Rattle.dcsctp_wire.proofs.laws.strict_is_lenient.Goals as goal

pub returns : goal.returns
returns c = lenient_answer
