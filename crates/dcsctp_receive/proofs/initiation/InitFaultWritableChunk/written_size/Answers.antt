use Rattle.dcsctp_receive.proofs.Aborts.{encodable, size_is}
use Rattle.dcsctp_receive.proofs.initiation.InitFaultWritableChunk.written_size.Goals as goal

pub returns : goal.returns
returns c = (
  encodable c.args.self.now,
  size_is c.args.self.now c.causes.result.now c.causes.ensures,
)
