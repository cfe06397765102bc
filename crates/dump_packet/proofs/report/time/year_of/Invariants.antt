use Rattle.std.proofs.Common.{◌≡◌, ◌+◌, ◌-◌, ◌≤◌}
use Rattle.dump_packet.specs.Calendar.{days_of_year, days_of_years}
use Rattle.dump_packet.proofs.report.time.year_of.Given as goal

abbrev pub invariant-loop-length : goal.invariant-loop-length
invariant-loop-length l = record {
  from : 1970 ≤ l.year;
  bounded : l.year + l.rest ≤ 1970 + l.fn.days;
  length : l.length ≡ days_of_year l.year;
  is : l.fn.days ≡ days_of_years (l.year - 1970) + l.rest;
}

abbrev pub decreases-loop-length : goal.decreases-loop-length
decreases-loop-length l = l.rest
