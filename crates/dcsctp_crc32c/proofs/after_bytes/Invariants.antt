use Rattle.std.proofs.Common.{◌≡◌, ◌*◌, take}
use Rattle.dcsctp_crc32c.specs.Checksum.{after_bytes}
use Rattle.dcsctp_crc32c.proofs.after_bytes.Given as goal

abbrev pub invariant-loop-k : goal.invariant-loop-k
invariant-loop-k l = l.after ≡ after_bytes l.register (take (32 * l.k) l.bytes)
