-- The date and time that Chromium writes before a line of its log.
use Rattle.std.specs.Prelude.{◌≤◌, ◌<◌}
use Rattle.dump_capture.specs.declared.stamp.Stamp.{Stamp}

-- its numbers can be; a second of 60 is a leap second
pub record IsInRange (s : Stamp) : Type 0 where
  pub first_month : 1 ≤ s.month
  pub month : s.month ≤ 12
  pub first_day : 1 ≤ s.day
  pub day : s.day ≤ 31
  pub hour : s.hour ≤ 23
  pub minute : s.minute ≤ 59
  pub second : s.second ≤ 60
  pub microseconds : s.microseconds < 1000000
