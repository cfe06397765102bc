use Rattle.std.proofs.Common.{refl}
use Rattle.dump_capture.proofs.text.hand_on.Goals as goal

pub returns : goal.returns
returns g c = record { event = _; is = refl; hands = c.frame.ensures }
