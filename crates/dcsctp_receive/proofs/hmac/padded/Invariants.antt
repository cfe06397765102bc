use Rattle.std.proofs.Common.{◌≡◌, ℕ, ◌<◌, get_or, bit_xor, length}
use Rattle.dcsctp_receive.proofs.hmac.padded.Given as goal

abbrev pub invariant-loop-i : goal.invariant-loop-i
invariant-loop-i l = (length l.bytes ≡ 64)
    × ((k : ℕ) → k < l.i → get_or l.bytes k 0 ≡ bit_xor (get_or l.block k 0) l.pad)
