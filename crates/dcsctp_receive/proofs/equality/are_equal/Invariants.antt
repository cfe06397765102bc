use Rattle.std.proofs.Common.{◌≡◌, ℕ, ◌<◌, get_or, ◌↔◌}
use Rattle.dcsctp_receive.proofs.equality.are_equal.Given as goal

-- no difference before i, if and only if the bytes before i are equal
abbrev pub invariant-loop-i : goal.invariant-loop-i
invariant-loop-i l = (l.difference ≡ 0)
    ↔ ((k : ℕ) → k < l.i → get_or l.one k 0 ≡ get_or l.other k 0)
