-- Row 5 of one calendar, from its week, and of a row of calendars.
use Rattle.std.specs.Prelude.{◌≡◌, true, false, List, [], ◌∷◌, ℕ, suc, ◌+◌, ◌-◌, ◌<◌, length, get_or}
use Rattle.std.specs.List.{list_all}
use Rattle.number.specs.Order.{cases}
use Rattle.std.proofs.Common.{sym, ap, ◌∙◌, ⊎_elim, arith}
use Rattle.worktime.specs.Reads.{on_true, on_false}
use Rattle.calendar.specs.declared.Period.{Period}
use Rattle.calendar.specs.Records.{weekly_hours}
use Rattle.sheet.specs.declared.Contents.{Contents}
use Rattle.order.specs.Plan.{plan_of, week_of_calendar}
use Rattle.order.specs.Checks.{Verdict, refuse, fine, first_of, judge_calendar}
use Rattle.order.specs.VerdictLaws.{first_passes, first_stops, first_end}
use Rattle.calendars.specs.declared.plan_calendar.PlanCalendar.{PlanCalendar}
use Rattle.calendars.specs.Calendars.{no_row, hours_verdict}

module _ (s : List ℕ) (c : Contents) (k : ℕ) (week : List (List Period)) (is : week ≡ week_of_calendar s c k) (l : k < c.calendars) where
  judged_fine : weekly_hours week ≡ true → judge_calendar (plan_of s c) k ≡ fine
  unfolding judge_calendar plan_of
  judged_fine e = on_true (weekly_hours (week_of_calendar s c k)) fine (refuse 5 0) (sym (ap weekly_hours is) ∙ e)

  judged_refused : weekly_hours week ≡ false → judge_calendar (plan_of s c) k ≡ refuse 5 0
  unfolding judge_calendar plan_of
  judged_refused e = on_false (weekly_hours (week_of_calendar s c k)) fine (refuse 5 0) (sym (ap weekly_hours is) ∙ e)

  pub hours_turn : weekly_hours week ≡ true
      → first_of (judge_calendar (plan_of s c)) (c.calendars - k) k ≡ first_of (judge_calendar (plan_of s c)) (c.calendars - (k + 1)) (k + 1)
  hours_turn e = first_passes (judge_calendar (plan_of s c)) c.calendars k l (ap (λ (v : Verdict). v.number) (judged_fine e))

  pub hours_stop : weekly_hours week ≡ false → first_of (judge_calendar (plan_of s c)) (c.calendars - k) k ≡ refuse 5 0
  hours_stop e =
      first_stops (judge_calendar (plan_of s c)) c.calendars k l
      (λ z. let f = ap (λ (v : Verdict). v.number) (judged_refused e) in omega arith)
      ∙ judged_refused e

-- the calendars from the i-th on, in a row
module _ (s : List ℕ) (c : Contents) where
  pub hours_all : (rows : List PlanCalendar) (i : ℕ) → i + length rows ≡ c.calendars
      → ((j : ℕ) → j < length rows → (get_or rows j no_row).week ≡ week_of_calendar s c (i + j))
      → hours_verdict (list_all (λ (row : PlanCalendar). weekly_hours row.week) rows) ≡ first_of (judge_calendar (plan_of s c)) (c.calendars - i) i
  hours_all [] i e h = sym (first_end (judge_calendar (plan_of s c)) c.calendars i (omega arith))
  hours_all (r ∷ rs) i e h =
      let is : r.week ≡ week_of_calendar s c i = h 0 (omega arith) ∙ ap (week_of_calendar s c) (omega arith) in
      ⊎_elim
      (λ (t : weekly_hours r.week ≡ true).
      rw t (hours_all rs (i + 1) (omega arith) (λ j l. h (suc j) (omega arith) ∙ ap (week_of_calendar s c) (omega arith)) ∙ sym (hours_turn s c i r.week is (omega arith) t)))
      (λ (f : weekly_hours r.week ≡ false). rw f (sym (hours_stop s c i r.week is (omega arith) f))) (cases (weekly_hours r.week))
