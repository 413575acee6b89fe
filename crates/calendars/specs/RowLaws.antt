-- What stands in the table that a sheet is held with: row k has calendar k of the sheet.
use Rattle.std.specs.Prelude.{◌≡◌, List, ℕ, ◌<◌, get_or}
use Rattle.std.proofs.Common.{◌∙◌, arith}
use Rattle.project.specs.Records.{day_length_at}
use Rattle.sheet.specs.Places.{exceptions_at, exception_count, calendar_at, week_at}
use Rattle.order.specs.Plan.{plan_of, plan_in}
use Rattle.calendars.specs.declared.plan_calendar.PlanCalendar.{PlanCalendar}
use Rattle.calendars.specs.declared.plan_sheet.PlanSheet.{PlanSheet}
use Rattle.calendars.specs.Calendars.{IsCalendar, Lengths, no_row}
use Rattle.calendars.specs.CalendarLaws.{week_named, place_named, number_named}
use Rattle.calendars.specs.TableLaws.{length_named}

module _ (plan : PlanSheet) (k : ℕ) (l : k < plan.sheet.contents.calendars) where
  abbrev s : List ℕ
  s = plan.sheet.bytes.now

  abbrev row : PlanCalendar
  row = get_or plan.calendars.now k no_row

  is : IsCalendar s plan.sheet.contents k row.week row.at row.n
  is = plan.located.row k l

  -- its week
  pub week_in_row : row.week ≡ week_at s (calendar_at s k)
  week_in_row = is.week_is ∙ week_named s plan.sheet.contents k l

  -- where its E records stand, and how many there are
  pub place_in_row : row.at ≡ exceptions_at s (calendar_at s k)
  place_in_row = is.at_is ∙ place_named s plan.sheet.contents k l

  pub number_in_row : row.n ≡ exception_count s (calendar_at s k)
  number_in_row = is.n_is ∙ number_named s plan.sheet.contents k l

  -- its day length, where the table has the day lengths
  pub length_in_row : Lengths (plan_in plan.sheet) plan.calendars.now → row.day_length ≡ day_length_at s (calendar_at s k)
  unfolding plan_of
  length_in_row L = L.is k (omega (arith, l)) ∙ length_named s plan.sheet.contents plan.sheet.read k l
