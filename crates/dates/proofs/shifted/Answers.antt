-- `dates::shifted` meets its contract: a lag of no minutes reads no calendar, any other counts on calendar `k` of the plan.
use mathlib.Core.Path.{sym, ap, ◌∙◌}
use mir.Syntax.{w64}
use mir.Val.{to_z}
use mir.Facts.{to_z-of_z}
use Rattle.worktime.specs.Walks.{shift}
use Rattle.worktime.proofs.Shift.{shift_zero}
use Rattle.calendars.specs.CalendarLaws.{in_plan_worked}
use Rattle.dates.proofs.shifted.Goals as goal

pub returns-then-lag-eq0 : goal.returns-then-lag-eq0
returns-then-lag-eq0 c =
    sym (ap (shift _ c.args.t) (sym (to_z-of_z c.ranges.lag) ∙ ap (to_z w64) c.if-lag-eq0.true) ∙ shift_zero _ _)

pub returns : goal.returns
returns c =
    c.shift.ensures
    ∙ (λ z. shift (in_plan_worked c.calendar-calendar.ensures z) c.args.t (to_z-of_z c.ranges.lag z))
