-- The laws of days and minutes: weekdays follow one another, a date's midnight is on its day, and the years that a date may lie in.
use Rattle.std.specs.Prelude.{◌≡◌, refl, true, false, Some, None, List, ℕ, ◌+◌, ◌*◌, ◌/◌, ◌%◌, ◌^◌, ◌≤◌, ◌<◌, ℤ, pos, negsuc, ◌-ℤ◌}
use Rattle.std.proofs.Common.{⊎_elim, arith}
use Rattle.number.specs.Order.{cases, lt_or_le}
use Rattle.number.specs.Bytes.{u32_at, i32_at, biased_at}
use Rattle.number.specs.BytesLaws.{i32_biased}
use Rattle.number.specs.Zed.{up, dn}
use Rattle.number.specs.ZedLaws.{apart, same, minus_is}
use Rattle.date.specs.Years.{first_day, end_day, in_years, years_in, years_within}
use Rattle.date.specs.Gregorian.{IsDate, years_up, years_down}
use Rattle.date.specs.YearLaws.{years_up_lem, years_down_lem, year_zero, epoch, up_grows, down_grows, year_before}
use Rattle.date.specs.DateLaws.{count_is, in_year}
use Rattle.date.specs.Days.{biased, from_days, weekday, midnight, signed_day, signed_minute}

-- ---- weekdays
pub thursday : weekday (biased (pos 0)) ≡ 3
thursday = refl

pub weekday_next : (d : ℕ) → weekday (d + 1) ≡ (weekday d + 1) % 7
weekday_next d = omega arith

-- ---- a day and its midnight
pub biased_is : (day : ℤ) → dn day ≤ 2 ^ 31 → biased day + dn day ≡ up day + 2 ^ 31
biased_is day h = omega arith

pub day_of_midnight : (day : ℤ) → dn day ≤ 2 ^ 31 → signed_day (midnight (biased day)) ≡ day
day_of_midnight day h =
    let e : midnight (biased day) / 1440 ≡ biased day = back (biased day) in
    rw e (same (pos (biased day) -ℤ pos (2 ^ 31)) day (omega (arith, minus_is (pos (biased day)) (pos (2 ^ 31)), biased_is day h)))
  where
    back : (d : ℕ) → d * 1440 / 1440 ≡ d
    back d = omega arith

-- its signed minute is 1,440 for each signed day
pub minute_of_midnight : (day : ℤ) → dn day ≤ 2 ^ 31 → up (signed_minute (midnight (biased day))) + 1440 * dn day ≡ dn (signed_minute (midnight (biased day))) + 1440 * up day
minute_of_midnight day h = omega (arith, minus_is (pos (midnight (biased day))) (pos (midnight (2 ^ 31))), biased_is day h)

-- the sheet's two readings of a day
pub biased_at_lem : (s : List ℕ) (at : ℕ) → u32_at s at < 2 ^ 32 → biased (i32_at s at) ≡ biased_at s at
biased_at_lem s at h = omega (arith, i32_biased s at h)

-- ---- the two ways of `from_days`
pub from_days_in : (day : ℤ) → in_years (biased day) ≡ true → from_days day ≡ Some (record { 0 = day })
unfolding from_days
from_days_in day e = rw (e, from_days)

pub from_days_out : (day : ℤ) → in_years (biased day) ≡ false → from_days day ≡ None
unfolding from_days
from_days_out day e = rw (e, from_days)

-- ---- exactly the years -9999 to 9999
first : years_down 9999 ≡ 3652059
first = omega (arith, years_down_lem 9999)

end : years_up 10000 ≡ 3652425
end = omega (arith, years_up_lem 10000)

module _ {day year : ℤ} {month dom : ℕ} (fits : dn day ≤ 2 ^ 31) (D : IsDate day year month dom) where
  pub in_years_of : dn year ≤ 9999 → up year ≤ 9999 → in_years (biased day) ≡ true
  in_years_of h k = years_within (biased day) (from h) (to k)
    where
      from : dn year ≤ 9999 → first_day ≤ biased day
      from h = omega (arith, count_is D, first, epoch, down_grows (dn year) 9999 h)

      to : up year ≤ 9999 → biased day < end_day
      to k = omega (arith, count_is D, in_year D, end, epoch, year_before year (pos 10000) (omega arith))

  pub years_of_in : in_years (biased day) ≡ true → (dn year ≤ 9999) × (up year ≤ 9999)
  years_of_in e = (low, high)
    where
      b : (first_day ≤ biased day) × (biased day < end_day)
      b = years_in (biased day) e

      below : 9999 < dn year → up year ≡ 0
      below h = ⊎_elim (λ u. u) (λ d. absurd (omega arith)) (apart year)

      low : dn year ≤ 9999
      low =
          ⊎_elim (λ h. absurd (omega (arith, b, count_is D, in_year D, year_zero, first, epoch, year_before year (negsuc 9998) (omega (arith, below h))))) (λ h. h)
          (lt_or_le 9999 (dn year))

      above : 9999 < up year → dn year ≡ 0
      above h = ⊎_elim (λ u. absurd (omega arith)) (λ d. d) (apart year)

      high : up year ≤ 9999
      high =
          ⊎_elim (λ h. absurd (omega (arith, b, count_is D, year_zero, end, epoch, up_grows 10000 (up year) h, down_grows (dn year) 0 (omega (arith, above h))))) (λ h. h)
          (lt_or_le 9999 (up year))

  -- `from_days` by the year
  pub from_days_within : dn year ≤ 9999 → up year ≤ 9999 → from_days day ≡ Some (record { 0 = day })
  from_days_within h k = from_days_in day (in_years_of h k)

  pub from_days_beyond : (dn year ≤ 9999 → up year ≤ 9999 → ⊥) → from_days day ≡ None
  from_days_beyond n =
      ⊎_elim (λ (e : in_years (biased day) ≡ true). let y = years_of_in e in absurd (n y.0 y.1)) (λ (e : in_years (biased day) ≡ false). from_days_out day e) (cases (in_years (biased day)))
