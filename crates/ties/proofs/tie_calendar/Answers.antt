-- `ties::tie_calendar` meets its contract.
use mathlib.Core.Path.{◌∙◌}
use native.Mathlib.Omega.{arith}
use Rattle.order.specs.Plan.{plan_of, plan_in}
use Rattle.order.specs.InSheet.{activity_is, link_is}
use Rattle.ties.specs.TieSteps.{calendar_is}
use Rattle.ties.proofs.tie_calendar.Goals as goal

pub activity-requires : goal.activity-requires
unfolding plan_of
activity-requires c = c.requires.2.from_below

pub activity-requires-2 : goal.activity-requires-2
unfolding plan_of
activity-requires-2 c = c.requires.2.to_below

pub lag_calendar-requires : goal.lag_calendar-requires
unfolding plan_of
lag_calendar-requires c =
    let x = c.args in
    let E = c.requires.2 in
    let F = c.requires.1 in
    let pred = rw (activity_is x.sheet.now x.ends.from c.activity.ensures) at c.calendar-pred.ensures.0 in
    let succ = rw (activity_is x.sheet.now x.ends.to c.activity-2.ensures) at c.calendar-succ.ensures.0 in
    (omega (arith, pred, (F x.ends.from E.from_below).calendar), omega (arith, succ, (F x.ends.to E.to_below).calendar))

pub returns : goal.returns
unfolding plan_of
returns c =
    let x = c.args in
    let p = plan_in x.sheet.now in (
      c.lag_calendar.ensures.0
          ∙ calendar_is p x.k x.ends.from x.ends.to c.requires.2 _ _ _ _ (rw (link_is x.sheet.now x.k c.link.ensures) at c.lag-lag.ensures) c.lag_calendar-by.ensures
          (rw (activity_is x.sheet.now x.ends.from c.activity.ensures) at c.calendar-pred.ensures.0)
          (rw (activity_is x.sheet.now x.ends.to c.activity-2.ensures) at c.calendar-succ.ensures.0),
      c.lag_calendar.ensures.1,
    )
