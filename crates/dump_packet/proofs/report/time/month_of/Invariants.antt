use Rattle.std.proofs.Common.{◌≡◌, ◌+◌, ◌-◌, ◌≤◌}
use Rattle.dump_packet.specs.Calendar.{days_of_month, days_of_months}
use Rattle.dump_packet.proofs.report.time.month_of.Given as goal

abbrev pub invariant-loop-length : goal.invariant-loop-length
invariant-loop-length l = record {
  from : 1 ≤ l.month;
  to : l.month ≤ 12;
  length : l.length ≡ days_of_month l.fn.year l.month;
  is : l.fn.days ≡ days_of_months l.fn.year (l.month - 1) + l.rest;
}

abbrev pub decreases-loop-length : goal.decreases-loop-length
decreases-loop-length l = l.rest
