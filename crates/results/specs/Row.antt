-- What the results are lent, and what is shown of an activity by its row of the memory.
use Rattle.std.specs.Prelude.{◌≡◌, ℕ, ◌<◌}
use Rattle.memory.specs.State.{State}
use Rattle.memory.specs.declared.Tables.{Tables}
use Rattle.memory.specs.Seen.{state}
use Rattle.order.specs.Plan.{Plan, plan_in}
use Rattle.order.specs.Ties.{calendar_of}
use Rattle.passes.specs.Plan.{own, kind_of, recorded}
use Rattle.passes.specs.Dates.{Pass}
use Rattle.passes.specs.Floats.{day_of}
use Rattle.calendars.specs.Calendars.{Lengths}
use Rattle.dates.specs.Standing.{Recorded}
use Rattle.results.specs.declared.Shown.{Shown}
use Rattle.results.specs.View.{times_in}
use Rattle.results.specs.Showing.{shown_from}
use Rattle.calendars.specs.declared.plan_sheet.PlanSheet.{PlanSheet}

-- a sheet that was read, its calendars' places and day lengths, each activity's calendar among them, and the recorded work in the memory
-- a clause, and no type's field: it relates the tables, which are written, to the plan
pub record ToShow (plan : PlanSheet) (tables : Tables) : Type 0 where
  pub activities : tables.activities ≡ plan.sheet.contents.activities
  pub links : tables.links ≡ plan.sheet.contents.links
  pub days : Lengths (plan_in plan.sheet) plan.calendars.now
  pub named : (i : ℕ) → i < plan.sheet.contents.activities → calendar_of (plan_in plan.sheet) i < plan.sheet.contents.calendars
  pub recorded : Recorded (plan_in plan.sheet) (state tables)

-- what is shown of activity i, by its row
unfoldable pub row_shown : Plan → State → ℕ → Pass Shown
row_shown p S i = shown_from p p.project (kind_of p i) (day_of p i) (own p i) (recorded p i) (times_in S i)
