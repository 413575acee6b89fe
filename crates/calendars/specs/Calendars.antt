-- The plan's calendars as values, and the table of them.
use Rattle.std.specs.Prelude.{◌≡◌, Bool, true, false, List, [], ℕ, ◌≤◌, ◌<◌, length, get_or}
use Rattle.calendar.specs.declared.Period.{Period}
use Rattle.calendar.specs.declared.value.Calendar.{Calendar}
use Rattle.project.specs.declared.Activity.{Activity}
use Rattle.sheet.specs.declared.Contents.{Contents}
use Rattle.sheet.specs.declared.value.Sheet.{Sheet}
use Rattle.order.specs.Plan.{Plan, plan_in, week_of_calendar, exception_place, exception_number}
use Rattle.order.specs.Ties.{calendar_of}
use Rattle.order.specs.Checks.{Verdict, refuse, fine}
use Rattle.calendars.specs.declared.plan_calendar.PlanCalendar.{PlanCalendar}

-- a calendar in hand is calendar k of the plan; the one after the last C works round the clock and has no E records
pub record IsCalendar (s : List ℕ) (c : Contents) (k : ℕ) (week : List (List Period)) (at n : ℕ) : Type 0 where
  pub week_is : week ≡ week_of_calendar s c k
  pub at_is : at ≡ exception_place s c k
  pub n_is : n ≡ exception_number s c k

-- a calendar as the clock takes it is calendar k of the plan
pub record InPlan (sheet : Sheet) (k : ℕ) (calendar : Calendar) : Type 0 where
  pub is : IsCalendar sheet.bytes.now sheet.contents k calendar.week.now calendar.exceptions.at calendar.exceptions.n
  pub sheet_is : calendar.exceptions.sheet.now ≡ sheet.bytes.now

-- an activity in hand is activity i of the plan, and a calendar in hand its OWN
pub record Own (sheet : Sheet) (i : ℕ) (activity : Activity) (calendar : Calendar) : Type 0 where
  pub is : activity ≡ (plan_in sheet).activity i
  pub in_plan : InPlan sheet (calendar_of (plan_in sheet) i) calendar

-- row 5 by whether all calendars have weekly hours
abbrev pub hours_verdict : Bool → Verdict
hours_verdict true = fine
hours_verdict false = refuse 5 0

-- what is read of a row that the table does not have
abbrev pub no_row : PlanCalendar
no_row = record { week = []; at = 0; n = 0; day_length = 0 }

-- the first n calendars of the plan stand in the table
pub record Located (s : List ℕ) (c : Contents) (n : ℕ) (calendars : List PlanCalendar) : Type 0 where
  pub size : n ≤ length calendars
  pub row : (k : ℕ) → k < n → let row = get_or calendars k no_row in IsCalendar s c k row.week row.at row.n

-- all calendars of the sheet stand there
abbrev pub Places : List ℕ → Contents → List PlanCalendar → Type 0
Places s c calendars = Located s c c.calendars calendars

-- the day length of each calendar stands there, the round-the-clock one's last
pub record Lengths (p : Plan) (calendars : List PlanCalendar) : Type 0 where
  pub size : p.calendars < length calendars
  pub is : (j : ℕ) → j ≤ p.calendars → (get_or calendars j no_row).day_length ≡ p.day_length j
  pub low : (j : ℕ) → j ≤ p.calendars → p.day_length j ≤ 1440
