-- Each calendar of a sheet that was read is valid, and works the minutes that the plan says.
use Rattle.std.specs.Prelude.{◌≡◌, List, ℕ, ◌+◌, ◌≤◌, ◌<◌, ltb, min, get_or}
use Rattle.std.proofs.Common.{⊎_elim, arith, lt-ltb, le-ltb, sym, ap, subst, refl, ◌∙◌}
use Rattle.number.specs.Order.{lt_or_le}
use Rattle.worktime.specs.Reads.{on_true, on_false}
use Rattle.calendar.specs.declared.Period.{Period}
use Rattle.calendar.specs.declared.value.Calendar.{Calendar}
use Rattle.calendar.specs.Hours.{worked}
use Rattle.calendar.specs.Records.{Valid, round_the_clock}
use Rattle.clock.specs.On.{worked_on, worked_by}
use Rattle.calendar.specs.ValidLaws.{clock_valid}
use Rattle.sheet.specs.declared.Contents.{Contents}
use Rattle.sheet.specs.declared.value.Sheet.{Sheet}
use Rattle.sheet.specs.Known.{SheetRead}
use Rattle.sheet.specs.Places.{week_at, calendar_at, exceptions_at, exception_count}
use Rattle.project.specs.declared.Activity.{Activity}
use Rattle.order.specs.Ties.{calendar_of}
use Rattle.order.specs.Plan.{plan_of, plan_in, week_of_calendar, exception_place, exception_number, hours_of_calendar}
use Rattle.calendars.specs.declared.plan_calendar.PlanCalendar.{PlanCalendar}
use Rattle.calendars.specs.Calendars.{IsCalendar, InPlan, Own, Located, no_row}

module _ (s : List ℕ) (c : Contents) where
  -- a calendar that the sheet names
  pub week_named : (k : ℕ) → k < c.calendars → week_of_calendar s c k ≡ week_at s (calendar_at s k)
  unfolding week_of_calendar
  week_named k l = on_true (ltb k c.calendars) (week_at s (calendar_at s k)) round_the_clock (lt-ltb k c.calendars l)

  pub place_named : (k : ℕ) → k < c.calendars → exception_place s c k ≡ exceptions_at s (calendar_at s k)
  unfolding exception_place
  place_named k l = on_true (ltb k c.calendars) (exceptions_at s (calendar_at s k)) 0 (lt-ltb k c.calendars l)

  pub number_named : (k : ℕ) → k < c.calendars → exception_number s c k ≡ exception_count s (calendar_at s k)
  unfolding exception_number
  number_named k l = on_true (ltb k c.calendars) (exception_count s (calendar_at s k)) 0 (lt-ltb k c.calendars l)

  -- the round-the-clock calendar
  pub week_last : (k : ℕ) → c.calendars ≤ k → week_of_calendar s c k ≡ round_the_clock
  unfolding week_of_calendar
  week_last k l = on_false (ltb k c.calendars) (week_at s (calendar_at s k)) round_the_clock (le-ltb k c.calendars l)

  pub place_last : (k : ℕ) → c.calendars ≤ k → exception_place s c k ≡ 0
  unfolding exception_place
  place_last k l = on_false (ltb k c.calendars) (exceptions_at s (calendar_at s k)) 0 (le-ltb k c.calendars l)

  pub number_last : (k : ℕ) → c.calendars ≤ k → exception_number s c k ≡ 0
  unfolding exception_number
  number_last k l = on_false (ltb k c.calendars) (exception_count s (calendar_at s k)) 0 (le-ltb k c.calendars l)

  -- so each of them is the round-the-clock calendar
  pub is_last : (k : ℕ) → c.calendars ≤ k → IsCalendar s c k round_the_clock 0 0
  is_last k l = record { week_is = sym (week_last k l); at_is = sym (place_last k l); n_is = sym (number_last k l) }

  valid_named : SheetRead s c → (k : ℕ) → k < c.calendars → Valid (week_of_calendar s c k) s (exception_place s c k) (exception_number s c k)
  valid_named read k l = rw (week_named k l, place_named k l, number_named k l) (read.calendar k l).valid

  valid_last : (k : ℕ) → c.calendars ≤ k → Valid (week_of_calendar s c k) s (exception_place s c k) (exception_number s c k)
  valid_last k l = rw (week_last k l, place_last k l, number_last k l) (clock_valid s 0 (omega arith))

module _ {s : List ℕ} {c : Contents} {k : ℕ} {week : List (List Period)} {at n : ℕ} (C : IsCalendar s c k week at n) where
  -- what the clock asks for
  pub calendar_valid : SheetRead s c → Valid week s at n
  calendar_valid read =
      rw (C.week_is, C.at_is, C.n_is) (⊎_elim (valid_named s c read k) (valid_last s c k) (lt_or_le k c.calendars))

  -- it works the minutes that the plan's calendar k works
  pub calendar_worked : worked_on week s at n ≡ worked ((plan_of s c).hours k)
  unfolding plan_of hours_of_calendar
  calendar_worked = rw (C.week_is, C.at_is, C.n_is)

-- a table that has the round-the-clock row, too, has calendar k in row k, and every calendar after the sheet's in that row
pub in_row : {s : List ℕ} {c : Contents} {calendars : List PlanCalendar} → Located s c (c.calendars + 1) calendars → (k : ℕ) → let row = get_or calendars (min k c.calendars) no_row in IsCalendar s c k row.week row.at row.n
in_row {s} {c} {calendars} P k =
    ⊎_elim (λ (l : k < c.calendars). let e : min k c.calendars ≡ k = omega (arith, l) in rw e (P.row k (omega (arith, l))))
    (λ (l : c.calendars ≤ k).
    let e : min k c.calendars ≡ c.calendars = omega (arith, l) in
    let m : c.calendars ≤ c.calendars = omega arith in
    let row = get_or calendars c.calendars no_row in
    let C : IsCalendar s c c.calendars row.week row.at row.n = P.row c.calendars (omega arith) in
    let f : IsCalendar s c k row.week row.at row.n =
    record {
      week_is = C.week_is ∙ week_last s c c.calendars m ∙ sym (week_last s c k l);
      at_is = C.at_is ∙ place_last s c c.calendars m ∙ sym (place_last s c k l);
      n_is = C.n_is ∙ number_last s c c.calendars m ∙ sym (number_last s c k l);
    } in
    rw e f) (lt_or_le k c.calendars)

module _ {sheet : Sheet} {k : ℕ} {calendar : Calendar} (C : InPlan sheet k calendar) where
  -- the same of a calendar as the clock takes it
  pub in_plan_worked : worked_by calendar ≡ worked ((plan_in sheet).hours k)
  in_plan_worked = rw C.sheet_is (calendar_worked C.is)

  -- the calendar of an activity in hand
  pub in_plan_own : (i : ℕ) {activity : Activity} → activity ≡ (plan_in sheet).activity i → k ≡ activity.calendar → InPlan sheet (calendar_of (plan_in sheet) i) calendar
  in_plan_own i e f = subst (λ (j : ℕ). InPlan sheet j calendar) (f ∙ ap (λ (x : Activity). x.calendar) e) C

-- an activity that was read, and the calendar of the number that it gives
pub own_is : {sheet : Sheet} {i : ℕ} {activity : Activity} {calendar : Calendar} → activity ≡ (plan_in sheet).activity i → InPlan sheet activity.calendar calendar
    → Own sheet i activity calendar
own_is {sheet} {i} e C = record { is = e; in_plan = in_plan_own C i e refl }
