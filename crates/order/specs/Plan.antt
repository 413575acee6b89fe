-- The plan that a sheet holds: its records as functions of their number, and its calendars.
use Rattle.std.specs.Prelude.{true, false, List, ℕ, ltb}
use Rattle.calendar.specs.declared.Period.{Period}
use Rattle.calendar.specs.Records.{round_the_clock, hours_on}
use Rattle.project.specs.declared.Activity.{Activity}
use Rattle.project.specs.declared.Relationship.{Relationship}
use Rattle.project.specs.declared.Project.{Project}
use Rattle.project.specs.Records.{activity_at, relationship_at, project_at, day_length_at}
use Rattle.sheet.specs.declared.Contents.{Contents}
use Rattle.sheet.specs.declared.value.Sheet.{Sheet}
use Rattle.sheet.specs.Places as places

pub record Plan : Type 0 where
  pub project : Project
  -- how many C records there are: "number 0 is the project's"
  pub calendars : ℕ
  -- the week of each calendar, and the hours of each of its days; the calendar after the last C works round the clock
  pub week : ℕ → List (List Period)
  pub hours : ℕ → ℕ → List Period
  pub day_length : ℕ → ℕ
  pub activities : ℕ
  pub activity : ℕ → Activity
  pub links : ℕ
  pub link : ℕ → Relationship

-- "A round-the-clock calendar of 1,440 is added last and can't be named"
module _ (s : List ℕ) (c : Contents) where
  unfoldable pub week_of_calendar : ℕ → List (List Period)
  week_of_calendar k = elim (ltb k c.calendars) [ true ↦ places.week_at s (places.calendar_at s k) | false ↦ round_the_clock ]

  unfoldable pub exception_place : ℕ → ℕ
  exception_place k = elim (ltb k c.calendars) [ true ↦ places.exceptions_at s (places.calendar_at s k) | false ↦ 0 ]

  unfoldable pub exception_number : ℕ → ℕ
  exception_number k = elim (ltb k c.calendars) [ true ↦ places.exception_count s (places.calendar_at s k) | false ↦ 0 ]

  unfoldable pub hours_of_calendar : ℕ → ℕ → List Period
  hours_of_calendar k = hours_on (week_of_calendar k) s (exception_place k) (exception_number k)

  unfoldable pub day_length_of_calendar : ℕ → ℕ
  day_length_of_calendar k = elim (ltb k c.calendars) [ true ↦ day_length_at s (places.calendar_at s k) | false ↦ 1440 ]

  unfoldable pub plan_of : Plan
  plan_of = record {
    project = project_at s 0;
    calendars = c.calendars;
    week = week_of_calendar;
    hours = hours_of_calendar;
    day_length = day_length_of_calendar;
    activities = c.activities;
    activity = λ i. activity_at s (places.activity_at c i);
    links = c.links;
    link = λ k. relationship_at s (places.link_at c k);
  }

-- the plan of a sheet in hand
abbrev pub plan_in : Sheet → Plan
plan_in sheet = plan_of sheet.bytes.now sheet.contents
