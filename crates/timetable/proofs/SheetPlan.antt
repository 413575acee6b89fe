-- The plan of a sheet that was read: its fields are in range, a finish milestone has no minutes, and every walk of the rules has an answer.
use Rattle.std.specs.Prelude.{◌≡◌, List, ℕ, ◌≤◌, ◌<◌, ltb, length}
use Rattle.std.proofs.Math.Bool.{true}
use Rattle.std.proofs.Math.Logic.{⊎_elim}
use borrow.Author.Tests.{lt-ltb, le-ltb}
use Rattle.number.specs.Bytes.{byte_at}
use Rattle.number.specs.Order.{lt_or_le}
use Rattle.worktime.specs.Reads.{on_true, on_false}
use Rattle.calendar.specs.Hours.{worked}
use Rattle.calendar.specs.Records.{weekly_hours, round_the_clock}
use Rattle.calendar.specs.WeekLaws.{week_length}
use Rattle.project.specs.Ranges.{ActivityInRange, ProjectInRange}
use Rattle.project.specs.RecordLaws.{activity_in, project_in}
use Rattle.sheet.specs.declared.Contents.{Contents}
use Rattle.sheet.specs.Known.{SheetRead}
use Rattle.sheet.specs.Places.{weeks_at, week_count, week_at, calendar_at, exceptions_at, exception_count, activity_at}
use Rattle.order.specs.Plan.{plan_of, week_of_calendar, exception_place, exception_number, hours_of_calendar}
use Rattle.order.specs.Checks.{checked}
use Rattle.order.proofs.FineLaws.{plan_fine_lem}
use Rattle.order.proofs.LoopLaws.{fine_passes}
use Rattle.timetable.proofs.Earliest.{Momentary}
use Rattle.timetable.proofs.Demand.{milestones_momentary}
use Rattle.timetable.proofs.AnswerLaws.{Answering}
use Rattle.timetable.proofs.CalendarAnswers.{weeks_answering, clock_answering}

module _ (s : List ℕ) (bytes : (i : ℕ) → byte_at s i < 256) (c : Contents) (read : SheetRead s c) where
  pub sheet_activities : (i : ℕ) → i < (plan_of s c).activities → ActivityInRange ((plan_of s c).activity i)
  unfolding plan_of
  sheet_activities i l = activity_in s bytes (activity_at c i) (read.activity i l).fields

  pub sheet_project : ProjectInRange (plan_of s c).project
  unfolding plan_of
  sheet_project = project_in s bytes 0 read.header.fields

  pub sheet_momentary : Momentary (plan_of s c)
  sheet_momentary = milestones_momentary (plan_of s c) sheet_activities

  week_seven : (at : ℕ) → length (week_at s at) ≡ 7
  unfolding week_at
  week_seven at = week_length s (weeks_at at) (week_count s at)

  module _ (fine : (checked (plan_of s c)).number ≡ 0) where
    named : (k : ℕ) → k < c.calendars → Answering (worked (hours_of_calendar s c k))
    unfolding hours_of_calendar week_of_calendar exception_place exception_number plan_of
    named k l =
        let e = lt-ltb k c.calendars l in
        let at = calendar_at s k in
        let r = read.calendar k l in
        let h : weekly_hours (week_of_calendar s c k) ≡ true = ((plan_fine_lem (plan_of s c)).0 (fine_passes (plan_of s c) fine)).calendars k l in
        let w : week_of_calendar s c k ≡ week_at s at = on_true (ltb k c.calendars) (week_at s at) round_the_clock e in
        let x : exception_place s c k ≡ exceptions_at s at = on_true (ltb k c.calendars) (exceptions_at s at) 0 e in
        let n : exception_number s c k ≡ exception_count s at = on_true (ltb k c.calendars) (exception_count s at) 0 e in
        rw (w, x, n) (weeks_answering r.valid (week_seven at) (rw w at h) r.exceptions_few)

    last : (k : ℕ) → c.calendars ≤ k → Answering (worked (hours_of_calendar s c k))
    unfolding hours_of_calendar week_of_calendar exception_place exception_number
    last k l =
        let e = le-ltb k c.calendars l in
        let at = calendar_at s k in
        let w : week_of_calendar s c k ≡ round_the_clock = on_false (ltb k c.calendars) (week_at s at) round_the_clock e in
        let x : exception_place s c k ≡ 0 = on_false (ltb k c.calendars) (exceptions_at s at) 0 e in
        let n : exception_number s c k ≡ 0 = on_false (ltb k c.calendars) (exception_count s at) 0 e in
        rw (w, x, n) (clock_answering s 0)

    -- what the laws of the rules' walks ask for
    pub sheet_answers : (k : ℕ) → k ≤ (plan_of s c).calendars → Answering (worked ((plan_of s c).hours k))
    unfolding plan_of
    sheet_answers k l = ⊎_elim (named k) (last k) (lt_or_le k c.calendars)
