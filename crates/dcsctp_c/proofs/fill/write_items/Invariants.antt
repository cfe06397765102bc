use Rattle.std.proofs.Common.{◌≤◌, ◌-◌, length}
use Rattle.dcsctp_c.proofs.Fills.{Written}
use Rattle.dcsctp_c.proofs.fill.write_items.Given as goal

abbrev pub invariant-loop-item : goal.invariant-loop-item
invariant-loop-item l = record {
  few : l.count ≤ l.offset;
  written : Written l.bytes l.fn.start l.initial.items l.items l.count l.offset;
}

abbrev pub decreases-loop-item : goal.decreases-loop-item
decreases-loop-item l = length l.bytes - l.offset
