use Rattle.std.proofs.Common.{[]}
use Rattle.dcsctp_receive.specs.declared.hmac.HashFunction.TheVariants.{Sha256}
use Rattle.dcsctp_receive.proofs.cookie.body_mac.Goals as goal

pub returns : goal.returns
returns c =
    c.finalize.ensures Sha256 c.args.key.now _ (c.update-2.ensures Sha256 c.args.key.now _
    (c.update.ensures Sha256 c.args.key.now [] c.new-hmac.ensures))
