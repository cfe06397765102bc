use Rattle.dcsctp_receive.proofs.Aborts.{encodable}
use Rattle.dcsctp_receive.proofs.initiation.InitFault.is_encodable.Goals as goal

pub returns : goal.returns
returns c = encodable c.args.self
