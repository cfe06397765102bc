-- What was read stands in the room's front, and no read failed.
use Rattle.std.proofs.Common.{◌≡◌, ◌≤◌, ◌-◌, length, take}
use Rattle.std.specs.Io.KnownBytes.{Consumes}
use Rattle.dump_io.specs.Watched.{device_of, has_failed}
use Rattle.dump_io.proofs.transfer.fill.Given as goal

abbrev pub invariant-loop-filled : goal.invariant-loop-filled
invariant-loop-filled g l =
    (l.filled ≤ length l.room)
    × Consumes (g.R.Read.remaining (device_of l.initial.input))
    (g.R.Read.remaining (device_of l.input)) (take l.filled l.room)
    × (has_failed l.input ≡ has_failed l.initial.input)

abbrev pub decreases-loop-filled : goal.decreases-loop-filled
decreases-loop-filled g l = length l.initial.room - l.filled
