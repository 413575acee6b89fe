-- What the checks of a link are lent.
use Rattle.std.specs.Prelude.{List}
use Rattle.memory.specs.declared.Tables.{Tables}
use Rattle.memory.specs.Seen.{state}
use Rattle.order.specs.Plan.{plan_in}
use Rattle.order.specs.IdLaws.{DistinctIds}
use Rattle.order.specs.FineLaws.{ActivitiesFine}
use Rattle.ids.specs.Index.{Indexed}
use Rattle.ids.specs.Parented.{Parented}
use Rattle.ids.specs.Lent.{Lent}
use Rattle.calendars.specs.declared.plan_calendar.PlanCalendar.{PlanCalendar}
use Rattle.calendars.specs.Calendars.{Lengths}
use Rattle.sheet.specs.declared.value.Sheet.{Sheet}

-- rows 6 to 12 are fine, and the memory has the index of ids, parents and summaries
pub record Judging (sheet : Sheet) (calendars : List PlanCalendar) (t : Tables) : Type 0 where
  pub lent : Lent sheet t
  pub distinct : DistinctIds (plan_in sheet)
  pub indexed : Indexed (plan_in sheet) (state t) sheet.contents.activities
  pub parented : Parented (plan_in sheet) (state t) sheet.contents.activities
  pub activities : ActivitiesFine (plan_in sheet)
  pub lengths_are : Lengths (plan_in sheet) calendars
