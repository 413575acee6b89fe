-- `PlanSheet::have_hours` meets its contract: its search over the rows of the table is that of the verdicts.
use Rattle.std.specs.Prelude.{◌≤◌, length, take}
use Rattle.std.proofs.Common.{ap, ◌∙◌, rules, tests, arith}
use Rattle.std.proofs.lemmas.List.{length-take-le, get_or-take}
use Rattle.std.proofs.lemmas.Iterator.{YieldsList-from_slice}
use Rattle.std.proofs.lemmas.Iterator.Search.{all_from_yields_List}
use Rattle.calendar.specs.Records.{weekly_hours}
use Rattle.order.specs.Plan.{plan_in, week_of_calendar}
use Rattle.order.specs.Checks.{first_of, judge_calendar}
use Rattle.calendars.specs.declared.plan_calendar.PlanCalendar.{PlanCalendar}
use Rattle.calendars.specs.Calendars.{no_row, hours_verdict}
use Rattle.calendars.specs.HoursLaws.{hours_all}
use Rattle.calendars.proofs.plan_sheet.PlanSheet.have_hours.Goals as goal

pub returns : goal.returns
returns c =
    let x = c.args.self.now in
    let n = x.sheet.contents.calendars in
    let rows = take n x.calendars.now in
    let fits : n ≤ length x.calendars.now = omega (arith, x.located.size) in
    let size = length-take-le n x.calendars.now fits in
    ap hours_verdict (all_from_yields_List (λ (row : PlanCalendar). weekly_hours row.week) _ _ _ c.all.ensures.ran (YieldsList-from_slice rows cc) (λ y b q k. search (rules, tests)))
    ∙ hours_all x.sheet.bytes.now x.sheet.contents rows 0 (omega (arith, size))
    (λ j l. ap (λ (row : PlanCalendar). row.week) (get_or-take n x.calendars.now j no_row (omega (arith, size, l)))
    ∙ (x.located.row j (omega (arith, size, l))).week_is ∙ ap (week_of_calendar x.sheet.bytes.now x.sheet.contents) (omega arith))
    ∙ ap (λ k. first_of (judge_calendar (plan_in x.sheet)) k 0) (omega arith)
