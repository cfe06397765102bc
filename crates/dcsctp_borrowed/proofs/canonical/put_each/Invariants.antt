use Rattle.std.proofs.Common.{◌≡◌}
use Rattle.dcsctp_tlv.specs.Image.{put}
use Rattle.dcsctp_borrowed.specs.Rewritten.{streams_again}
use Rattle.dcsctp_borrowed.proofs.canonical.put_each.Given as goal

abbrev pub invariant-loop-i : goal.invariant-loop-i
invariant-loop-i l = l.output ≡ put l.initial.output l.place (streams_again l.i l.streams)
