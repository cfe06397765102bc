use Rattle.dcsctp_receive.proofs.SackBlocks.{wrong_right, wrong_wrong}
use Rattle.dcsctp_receive.proofs.laws.wrong_blocks.Goals as goal

pub returns-clause-right : goal.returns-clause-right
returns-clause-right c = wrong_right

pub returns-clause-wrong : goal.returns-clause-wrong
returns-clause-wrong c = wrong_wrong
