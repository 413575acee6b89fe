-- The lags of kept links: within 144,000,000 minutes, and on a calendar of the plan or round the clock.
use Rattle.std.specs.Prelude.{◌≡◌, true, false, ℕ, ◌+◌, ◌≤◌, ◌<◌, ℤ, pos, nat_abs, ◌*ℤ◌}
use Rattle.std.proofs.Common.{sym, ◌∙◌, true≢false, ⊎_elim, ltb-false, ltb-true, mul-le-mul}
use native.Mathlib.Omega.{arith}
use Rattle.number.specs.Zed.{up, dn}
use Rattle.number.specs.ZedLaws.{abs_is}
use Rattle.number.specs.QuotLaws.{abs_mul}
use Rattle.number.specs.SignLaws.{percent_size}
use Rattle.number.specs.Order.{cases}
use Rattle.project.specs.declared.LagKind.{LagKind}
use Rattle.project.specs.declared.LagKind.TheVariants.{WorkingDays, WorkingMinutes, ElapsedDays, ElapsedMinutes, Percent}
use Rattle.project.specs.declared.LagCalendar.{LagCalendar}
use Rattle.project.specs.declared.LagCalendar.TheVariants.{Predecessor, Successor, TwentyFourHour}
use Rattle.order.specs.Plan.{Plan}
use Rattle.order.specs.Lags.{beyond, days_limit, minutes_limit, working_calendar, lag_calendar, lag_minutes, lag_before, lag_too_long}
use Rattle.order.specs.Ties.{from_of, to_of, ignored, calendar_of, tie_calendar, tie_too_long, tie_of}
use Rattle.order.specs.FineLaws.{ActivitiesFine, LinksFine}
use Rattle.order.specs.TieLaws.{from_below, to_below}

-- ---- too long
pub not_beyond : (limit : ℕ) (z : ℤ) → beyond limit z ≡ false → up z + dn z ≤ limit
not_beyond limit z e = ltb-false limit (up z + dn z) e

pub is_beyond : (limit : ℕ) (z : ℤ) → beyond limit z ≡ true → limit < up z + dn z
is_beyond limit z e = ltb-true limit (up z + dn z) e

module _ (lag : LagKind) (day_length : ℕ) (duration : ℤ) where
  pub lag_long_before : lag_before lag ≡ true → lag_too_long lag day_length duration ≡ true
  unfolding lag_too_long
  lag_long_before e = simp (e, lag_too_long)

  module _ (e : lag_before lag ≡ false) where
    pub lag_long_after : beyond minutes_limit (lag_minutes lag day_length duration) ≡ true → lag_too_long lag day_length duration ≡ true
    unfolding lag_too_long
    lag_long_after f = simp (e, f, lag_too_long)

    pub lag_fits : beyond minutes_limit (lag_minutes lag day_length duration) ≡ false → lag_too_long lag day_length duration ≡ false
    unfolding lag_too_long
    lag_fits f = simp (e, f, lag_too_long)

  pub lag_short : lag_too_long lag day_length duration ≡ false
      → up (lag_minutes lag day_length duration) + dn (lag_minutes lag day_length duration) ≤ 144000000
  lag_short h =
      ⊎_elim (λ (e : lag_before lag ≡ true). absurd (true≢false (sym (lag_long_before e) ∙ h)))
      (λ (e : lag_before lag ≡ false).
      ⊎_elim (λ f. absurd (true≢false (sym (lag_long_after e f) ∙ h)))
      (λ f. not_beyond minutes_limit (lag_minutes lag day_length duration) f) (cases (beyond minutes_limit (lag_minutes lag day_length duration))))
      (cases (lag_before lag))

-- ---- before the last test a lag fits far within 64 bits: days by a day length, or a share of at most 48,000,000 minutes
days_size : (n : ℤ) (d : ℕ) → up n + dn n ≤ 100000 → d ≤ 1440 → up (n *ℤ pos d) + dn (n *ℤ pos d) ≤ 144000000
days_size n d a b =
    let h : nat_abs n ≤ 100000 = omega (arith, abs_is n) in
    omega (arith, abs_is (n *ℤ pos d), abs_mul n (pos d), mul-le-mul h b)

module _ (day_length : ℕ) (duration : ℤ) (day : day_length ≤ 1440) (short : up duration + dn duration ≤ 48000000) where
  pub lag_size : (lag : LagKind) → lag_before lag ≡ false → up (lag_minutes lag day_length duration) + dn (lag_minutes lag day_length duration) ≤ 4800000000
  unfolding lag_before lag_minutes
  lag_size (WorkingDays n) e = omega (arith, days_size n day_length (not_beyond days_limit n e) day)
  lag_size (WorkingMinutes n) e = omega (arith, not_beyond minutes_limit n e)
  lag_size (ElapsedDays n) e = omega (arith, days_size n 1440 (not_beyond days_limit n e) (omega arith))
  lag_size (ElapsedMinutes n) e = omega (arith, not_beyond minutes_limit n e)
  lag_size (Percent n) e = percent_size duration n short

-- ---- the calendar
module _ (pred succ last : ℕ) (a : pred ≤ last) (b : succ ≤ last) where
  pub working_calendar_le : (by : LagCalendar) → working_calendar by pred succ last ≤ last
  unfolding working_calendar
  working_calendar_le Predecessor = a
  working_calendar_le Successor = b
  working_calendar_le TwentyFourHour = omega arith
  working_calendar_le LagCalendar.Project = omega arith

  pub lag_calendar_le : (lag : LagKind) (by : LagCalendar) → lag_calendar lag by pred succ last ≤ last
  unfolding lag_calendar
  lag_calendar_le (WorkingDays n) by = working_calendar_le by
  lag_calendar_le (WorkingMinutes n) by = working_calendar_le by
  lag_calendar_le (ElapsedDays n) by = omega arith
  lag_calendar_le (ElapsedMinutes n) by = omega arith
  lag_calendar_le (Percent n) by = a

-- ---- of a plan's links
module _ (p : Plan) where
  pub calendar_below : ActivitiesFine p → (i : ℕ) → i < p.activities → calendar_of p i < p.calendars
  calendar_below h i l = (h i l).calendar

  module _ (links : LinksFine p) (k : ℕ) (l : k < p.links) where
    -- after row 8, of a kept link
    pub tie_lag : ignored p k ≡ false → up (tie_of p k).lag + dn (tie_of p k).lag ≤ 144000000
    unfolding tie_of tie_too_long
    tie_lag e =
        lag_short (p.link k).lag (p.day_length (tie_calendar p k)) (p.activity (from_of p k)).minutes ((links k l).short e)

    -- after row 9; the calendar whose number is `calendars` works round the clock
    pub tie_calendar_lem : ActivitiesFine p → (tie_of p k).calendar ≤ p.calendars
    unfolding tie_of tie_calendar
    tie_calendar_lem h =
        lag_calendar_le (calendar_of p (from_of p k)) (calendar_of p (to_of p k)) p.calendars
        (omega (arith, (h (from_of p k) (from_below p links k l)).calendar)) (omega (arith, (h (to_of p k) (to_below p links k l)).calendar))
        (p.link k).lag p.project.lag_calendar
