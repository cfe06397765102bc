use Rattle.dcsctp_borrowed.proofs.FrameItems.{frame_items}
use Rattle.dcsctp_borrowed.proofs.laws.grammar_items.Goals as goal

pub returns : goal.returns
returns c = frame_items
