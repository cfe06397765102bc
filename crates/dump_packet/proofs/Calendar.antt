-- Steps of the calendar: one year on, and one month on.
use Rattle.std.proofs.Common.{◌≡◌, ◌+◌, ◌-◌, ◌<◌, ◌≤◌, ◌⊎◌, inl, inr, ℕ, suc, true, false, refl, ap, ◌∙◌, subst, arith}
use Rattle.dump_packet.specs.Calendar.{is_leap_year, days_of_year, days_of_month, days_of_years, days_of_months}

pub next_year : (year : ℕ) → 1970 ≤ year → days_of_years (year + 1 - 1970) ≡ days_of_years (year - 1970) + days_of_year year
next_year year from =
    let later : year + 1 - 1970 ≡ suc (year - 1970) = omega (arith, from) in
    let same : 1970 + (year - 1970) ≡ year = omega (arith, from) in
    ap days_of_years later ∙ ap (λ (y : ℕ). days_of_years (year - 1970) + days_of_year y) same

pub next_month : (year month : ℕ) → 1 ≤ month → days_of_months year (month + 1 - 1) ≡ days_of_months year (month - 1) + days_of_month year month
next_month year month from =
    let later : month + 1 - 1 ≡ suc (month - 1) = omega (arith, from) in
    let same : suc (month - 1) ≡ month = omega (arith, from) in
    ap (days_of_months year) later
    ∙ ap (λ (m : ℕ). days_of_months year (month - 1) + days_of_month year m) same

-- the twelve months are the year
whole : (year : ℕ) → days_of_months year 11 + days_of_month year 12 ≡ days_of_year year
whole year = (elim (is_leap_year year) as (λ b. is_leap_year year ≡ b → days_of_months year 11 + days_of_month year 12 ≡ days_of_year year) [
  | true ↦ λ t. rw t refl
  | false ↦ λ t. rw t refl
]) refl

below_or_at : (month : ℕ) → month ≤ 12 → (month + 1 ≤ 12) ⊎ (month ≡ 12)
below_or_at month to = grind (arith, to)

-- so a day of the year that is past a month isn't past the last one
pub has_next : (year month rest days : ℕ) → month ≤ 12 → days ≡ days_of_months year (month - 1) + rest → days_of_month year month ≤ rest → days < days_of_year year → month + 1 ≤ 12
has_next year month rest days to is past less = elim (below_or_at month to) [
  | inl l ↦ l
  | inr e ↦ let is' = subst (λ (m : ℕ). days ≡ days_of_months year (m - 1) + rest) e is in
      let past' = subst (λ (m : ℕ). days_of_month year m ≤ rest) e past in
      let all = whole year in
      absurd (omega (arith, is', past', all, less))
]

pub some_days : (year : ℕ) → 1 ≤ days_of_year year
some_days year = (elim (is_leap_year year) as (λ b. is_leap_year year ≡ b → 1 ≤ days_of_year year) [
  | true ↦ λ t. rw t (omega arith)
  | false ↦ λ t. rw t (omega arith)
]) refl
