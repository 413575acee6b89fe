-- `ties::lag_of` meets its contract.
use native.Mathlib.Omega.{arith}
use Rattle.order.specs.Plan.{plan_of}
use Rattle.order.specs.InSheet.{activity_is, link_is}
use Rattle.ties.specs.Widened.{widened_back}
use Rattle.ties.proofs.lag_of.Goals as goal

pub bounds-calendars-calendar : goal.bounds-calendars-calendar
unfolding plan_of
bounds-calendars-calendar c = omega (arith, c.requires.4, c.requires.3.size)

pub activity-requires : goal.activity-requires
unfolding plan_of
activity-requires c = c.requires.2.from_below

pub invariant_of-result : goal.invariant_of-result
unfolding plan_of
invariant_of-result c =
    let x = c.args in
    let h = c.requires in
    let F = h.1 x.ends.from h.2.from_below in
    record {
      day_within = omega (arith, h.3.is x.calendar h.4, h.3.low x.calendar h.4);
      duration_within = rw (widened_back _ (record { sfits = c.minutes.type_inv }), rw (activity_is x.sheet.now x.ends.from c.activity.ensures) at c.minutes.ensures) (omega (arith, F.whole, F.short));
    }

pub returns : goal.returns
unfolding plan_of
returns c =
    let x = c.args in
    let h = c.requires in (
      rw (link_is x.sheet.now x.k c.link.ensures) at c.lag.ensures,
      h.3.is x.calendar h.4,
      rw (widened_back _ (record { sfits = c.minutes.type_inv })) (rw (activity_is x.sheet.now x.ends.from c.activity.ensures) at c.minutes.ensures),
    )
