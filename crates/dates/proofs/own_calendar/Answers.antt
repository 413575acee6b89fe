-- `dates::own_calendar` meets its contract: the calendar is the one that the activity's record names.
use mathlib.Core.Path.{ap, subst, ◌∙◌}
use Prim.Native.Nat.{ℕ}
use Rattle.project.specs.declared.Activity.{Activity}
use Rattle.order.specs.InSheet.{activity_is}
use Rattle.calendars.specs.Calendars.{InPlan}
use Rattle.dates.proofs.own_calendar.Goals as goal

pub returns : goal.returns
returns c =
    let x = c.args in
    let is = activity_is x.plan.now.sheet x.i c.activity.ensures in
    subst (λ (j : ℕ). InPlan x.plan.now.sheet j c.calendar-2.result) (c.calendar.ensures.0 ∙ ap (λ (a : Activity). a.calendar) is) c.calendar-2.ensures
