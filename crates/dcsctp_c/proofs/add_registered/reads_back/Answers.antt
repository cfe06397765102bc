use Rattle.std.proofs.Common.{rules}
use Rattle.dcsctp_c.proofs.RegisteredPlaces.{reads_back}
use Rattle.dcsctp_c.proofs.add_registered.reads_back.Goals as goal

pub returns : goal.returns
returns c l v = reads_back c.args.bytes.now c.args.registered.now l v (search rules) (search rules)
