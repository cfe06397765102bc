-- The Gregorian calendar (RFC 3339 section 5.7 and appendix C), from 1970-01-01 on.
use Rattle.std.specs.Prelude.{◌≡◌, ◌+◌, ◌-◌, ◌%◌, ◌≤◌, ◌==◌, ◌&&◌, ◌||◌, Bool, ℕ, zero, suc, if◌then◌else◌, not}

abbrev pub is_leap_year : ℕ → Bool
is_leap_year year = (year % 4 == 0) && (not (year % 100 == 0) || (year % 400 == 0))

abbrev pub days_of_year : ℕ → ℕ
days_of_year year = if is_leap_year year then 366 else 365

abbrev pub days_of_month : ℕ → ℕ → ℕ
days_of_month year month =
    if month == 2 then (if is_leap_year year then 29 else 28) else
    if (month == 4) || ((month == 6) || ((month == 9) || (month == 11))) then 30 else 31

-- of the first n years, and of the first n months of a year
abbrev pub days_of_years : ℕ → ℕ
days_of_years zero = 0
days_of_years (suc n) = days_of_years n + days_of_year (1970 + n)

abbrev pub days_of_months : ℕ → ℕ → ℕ
days_of_months year zero = 0
days_of_months year (suc n) = days_of_months year n + days_of_month year (suc n)

-- the date of the day after this many
pub record IsDate (days year month day : ℕ) : Type 0 where
  pub year_from : 1970 ≤ year
  pub month_from : 1 ≤ month
  pub month_to : month ≤ 12
  pub day_from : 1 ≤ day
  pub day_to : day ≤ days_of_month year month
  pub is : days + 1 ≡ days_of_years (year - 1970) + (days_of_months year (month - 1) + day)
