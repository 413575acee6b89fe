-- "256 E can't starve the 3,660-day search": with weekly hours and at most 256 E every walk forward has an answer, and every walk back from late enough.
use Rattle.std.specs.Prelude.{◌≡◌, true, List, [], ℕ, zero, suc, ◌+◌, ◌-◌, ◌*◌, ◌/◌, ◌%◌, ◌^◌, ◌≤◌, ◌<◌, length, get_or}
use Rattle.std.proofs.Common.{ap, ◌∙◌}
use native.Mathlib.Omega.{arith}
use Rattle.number.specs.Bytes.{biased_at}
use Rattle.date.specs.Days.{weekday}
use Rattle.calendar.specs.declared.Period.{Period}
use Rattle.calendar.specs.Hours.{worked, works, Ordered}
use Rattle.calendar.specs.HoursLaws.{Held, works_held, held_day, held_works}
use Rattle.calendar.specs.Records.{exception_day, exceptions_on, hours_on, round_the_clock, weekly_hours, Valid}
use Rattle.calendar.specs.WeekLaws.{row_of}
use Rattle.calendar.specs.DayLaws.{on_rest, hours_week}
use Rattle.calendar.specs.ValidLaws.{clock_worked}
use Rattle.clock.specs.On.{worked_on}
use Rattle.worktime.specs.Worked.{count, IsNextStart, IsPreviousFinish, IsNextFinish, IsAdvance, IsRetreat}
use Rattle.worktime.specs.Count.{count_lt_lt, count_zero, count_worked, closing_before}
use Rattle.worktime.specs.Relations.{previous_finish_count, previous_finish_here, next_start_here}
use Rattle.worktime.specs.Exist.{previous_finish_exists, endless_next_finish}
use Rattle.worktime.specs.Lower.{Weekly, weekly_count, weekly_next_start, weekly_advance, weekly_retreat, first, regular_weekly, regular_endless}

-- a day that no E record names has no periods of its own
on_none : (s : List ℕ) (at n d : ℕ) → ((i : ℕ) → i < n → exception_day s at i ≡ d → ⊥) → exceptions_on s at d n ≡ []
unfolding exceptions_on
on_none s at n d f = let e : 0 + n ≡ n = omega arith in rw e at (on_rest s at d 0 n (λ j x y. f j (omega arith)))

day_below : (s : List ℕ) (at i : ℕ) → exception_day s at i < 2 ^ 32
unfolding biased_at
day_below s at i = omega arith

-- a minute of the week, from the first minute of all on, that every week works but for its E
pub record Regular (week : List (List Period)) (s : List ℕ) (at n : ℕ) : Type 0 where
  pub minute : ℕ
  pub inside : minute < 10080
  pub is : (v : ℕ) → v % 10080 ≡ minute → ((i : ℕ) → i < n → exception_day s at i ≡ v / 1440 → ⊥) → worked_on week s at n v ≡ true

module _ {week : List (List Period)} {s : List ℕ} {at n : ℕ} (valid : Valid week s at n) where
  -- the rows of the week are in order: each is that of a day after all E
  pub row_ordered : (k : ℕ) → k < 7 → Ordered 0 (get_or week k [])
  row_ordered k l =
      let d : ℕ = 7 * 2 ^ 32 + k + 6 in
      let e : weekday d ≡ k = omega arith in
      rw e at (rw (hours_week week s at n d (on_none s at n d (λ i x y. omega (arith, day_below s at i)))) at (valid.ordered d))

  module _ (seven : length week ≡ 7) (hours : weekly_hours week ≡ true) where
    pub regular : Regular week s at n
    unfolding worked
    regular = let r = row_of week hours in make r.0 (omega (arith, r.1)) (works_held (get_or week r.0 []) r.2)
      where
        make : (k : ℕ) → k < 7 → Held (get_or week k []) → Regular week s at n
        make k l h =
            let m = held_day (get_or week k []) h.minute (row_ordered k l) h.is in
            record {
              minute = (k + 6) % 7 * 1440 + h.minute;
              inside = omega arith;
              is = λ v e f.
                  let a : weekday (v / 1440) ≡ k = omega arith in
                  let b : v % 1440 ≡ h.minute = omega arith in
                  rw (hours_week week s at n (v / 1440) (on_none s at n (v / 1440) f), a, b) h.is;
            }

    weekly : (t : ℕ) → Weekly (worked_on week s at n) (exception_day s at) n t (λ j. first regular.minute t + 10080 * j)
    weekly t = regular_weekly (worked_on week s at n) (exception_day s at) n regular.minute regular.inside regular.is t

    pub endless : (t : ℕ) → (v : ℕ) × (t ≤ v) × (worked_on week s at n v ≡ true)
    endless = regular_endless (worked_on week s at n) (exception_day s at) n regular.minute regular.inside regular.is

    -- k weeks count k minutes, but for the E
    pub weeks_count : (t k : ℕ) → count (worked_on week s at n) t + k ≤ count (worked_on week s at n) (t + 10080 * k) + n
    weeks_count t = weekly_count (weekly t)

    -- ---- every walk forward has an answer

    pub weeks_next_finish : (t : ℕ) → (u : ℕ) × IsNextFinish (worked_on week s at n) t u
    weeks_next_finish = endless_next_finish (worked_on week s at n) endless

    pub weeks_advance : (t m : ℕ) → (u : ℕ) × (u ≤ t + 10080 * (m + n)) × IsAdvance (worked_on week s at n) t m u
    weeks_advance t = weekly_advance (weekly t)

    -- ---- and every walk back from late enough

    pub weeks_retreat : (t m : ℕ) → 10080 * (m + n) ≤ t → (u : ℕ) × (t ≤ u + 10080 * (m + n)) × IsRetreat (worked_on week s at n) t m u
    weeks_retreat t m l =
        let e : t - 10080 * (m + n) + 10080 * (m + n) ≡ t = omega arith in
        let r = weekly_retreat (weekly (t - 10080 * (m + n))) m in
        (r.0, omega (arith, r.1), rw e at r.2)

    -- ---- at most 256 E: within 1,799 days
    module _ (few : n ≤ 256) where
      pub weeks_next_start : (t : ℕ) → (u : ℕ) × (u / 1440 ≤ t / 1440 + 1799) × IsNextStart (worked_on week s at n) t u
      weeks_next_start t = let r = weekly_next_start (weekly t) in (r.0, omega (arith, r.1), r.2)

      pub weeks_previous_finish : (t : ℕ) → 1799 * 1440 ≤ t → (u : ℕ) × (t / 1440 ≤ u / 1440 + 1799) × IsPreviousFinish (worked_on week s at n) t u
      weeks_previous_finish t l =
          let from : ℕ = t - 10080 * (n + 1) in
          let e : from + 10080 * (n + 1) ≡ t = omega arith in
          let c : count (worked_on week s at n) from < count (worked_on week s at n) t = omega (arith, weeks_count from (n + 1), ap (count (worked_on week s at n)) e) in
          let r = previous_finish_exists (worked_on week s at n) t (omega arith) in
          let b : from < r.0 = count_lt_lt (worked_on week s at n) (omega (arith, previous_finish_count (worked_on week s at n) r.1)) in
          (r.0, omega arith, r.1)

      -- among any 3,660 days some day is worked
      pub weeks_search : (d : ℕ) → (e : ℕ) × (d ≤ e) × (e < d + 3660) × (works (hours_on week s at n e) ≡ true)
      unfolding worked
      weeks_search d =
          let r = weeks_next_start (d * 1440) in
          let a = r.2.after in
          (r.0 / 1440, omega arith, omega (arith, r.1), held_works (hours_on week s at n (r.0 / 1440)) (r.0 % 1440) r.2.worked)

      -- from 01's first day on (1 January 1600) a lead of 144,000,000 minutes can be walked back
      pub weeks_lead : (t m : ℕ) → 2147348508 * 1440 ≤ t → m ≤ 144000000 → (u : ℕ) × IsRetreat (worked_on week s at n) t m u
      weeks_lead t m l b = let r = weeks_retreat t m (omega arith) in (r.0, r.2)

-- ---- round the clock: every minute counts
module _ (s : List ℕ) (at : ℕ) where
  pub clock_count : (t : ℕ) → count (worked_on round_the_clock s at 0) t ≡ t
  clock_count zero = count_zero (worked_on round_the_clock s at 0)
  clock_count (suc t) = omega (arith, count_worked (worked_on round_the_clock s at 0) t (clock_worked s at t), clock_count t)

  pub clock_next_start : (t : ℕ) → IsNextStart (worked_on round_the_clock s at 0) t t
  clock_next_start t = next_start_here (worked_on round_the_clock s at 0) (clock_worked s at t)

  pub clock_advance : (t m : ℕ) → IsAdvance (worked_on round_the_clock s at 0) t m (t + m)
  clock_advance t m = record {
    still = λ e. omega arith;
    closes = λ l. closing_before (worked_on round_the_clock s at 0) (t + m) (omega arith) ∙ clock_worked s at (t + m - 1);
    total = omega (arith, clock_count t, clock_count (t + m));
  }

  pub clock_retreat : (t m : ℕ) → m ≤ t → IsRetreat (worked_on round_the_clock s at 0) t m (t - m)
  clock_retreat t m l = record {
    still = λ e. omega arith;
    worked = λ p. clock_worked s at (t - m);
    total = omega (arith, clock_count t, clock_count (t - m));
  }

  pub clock_previous_finish : (t : ℕ) → 0 < t → IsPreviousFinish (worked_on round_the_clock s at 0) t t
  clock_previous_finish t l = previous_finish_here (worked_on round_the_clock s at 0) (closing_before (worked_on round_the_clock s at 0) t l ∙ clock_worked s at (t - 1))
