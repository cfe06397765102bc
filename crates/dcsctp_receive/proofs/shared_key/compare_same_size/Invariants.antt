use Rattle.std.proofs.Common.{◌≡◌, take}
use Rattle.dcsctp_receive.proofs.shared_key.compare_same_size.Given as goal

abbrev pub invariant-loop-i : goal.invariant-loop-i
invariant-loop-i l = take l.i l.one ≡ take l.i l.other
