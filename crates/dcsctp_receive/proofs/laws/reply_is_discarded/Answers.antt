use Rattle.dcsctp_receive.proofs.Replies.{reply_is_discarded}
use Rattle.dcsctp_receive.proofs.laws.reply_is_discarded.Goals as goal

pub returns : goal.returns
returns c = reply_is_discarded
