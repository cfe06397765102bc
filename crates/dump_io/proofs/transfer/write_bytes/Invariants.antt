-- What was written is the front of the bytes, and no write failed.
use Rattle.std.proofs.Common.{◌≡◌, ◌≤◌, ◌-◌, length, take}
use Rattle.std.specs.Io.KnownBytes.{Appends}
use Rattle.dump_io.specs.Watched.{device_of, has_failed}
use Rattle.dump_io.proofs.transfer.write_bytes.Given as goal

abbrev pub invariant-loop-written : goal.invariant-loop-written
invariant-loop-written g l =
    (l.written ≤ length l.bytes)
    × Appends (g.W.Write.contents (device_of l.initial.output))
    (g.W.Write.contents (device_of l.output)) (take l.written l.bytes)
    × (has_failed l.output ≡ has_failed l.initial.output)

abbrev pub decreases-loop-written : goal.decreases-loop-written
decreases-loop-written g l = length l.initial.bytes - l.written
