-- `results::row_of` meets its contract.
use Rattle.std.specs.Prelude.{Ok}
use mathlib.Core.Path.{◌≡◌, ap, ◌∙◌}
use Prim.Native.Nat.{ℕ, ◌≤◌}
use native.Mathlib.Omega.{arith}
use Rattle.calendar.specs.Hours.{worked}
use Rattle.project.specs.declared.Activity.{Activity}
use Rattle.order.specs.Plan.{plan_of, plan_in}
use Rattle.calendars.specs.CalendarLaws.{in_plan_worked}
use Rattle.memory.specs.Seen.{state}
use Rattle.results.proofs.RowLaws.{row_is}
use Rattle.results.proofs.row_of.Goals as goal

pub bounds-plan-k : goal.bounds-plan-k
unfolding plan_of
bounds-plan-k c =
    let h = c.requires in
    omega (arith, ap (λ (a : Activity). a.calendar) c.activity_of-activity.ensures, h.0.named c.args.i h.1, h.0.days.size)

pub shown_of-requires : goal.shown_of-requires
unfolding plan_of
shown_of-requires c =
    let h = c.requires in
    let k = c.activity_of-activity.result.calendar in
    let e = ap (λ (a : Activity). a.calendar) c.activity_of-activity.ensures in
    let n : k ≤ c.args.plan.now.sheet.contents.calendars = omega (arith, e, h.0.named c.args.i h.1) in
    let t = c.times_at-t.ensures in (
      omega (arith, h.0.days.is k n, h.0.days.low k n),
      t.1,
      t.2,
      t.3,
    )

pub returns : goal.returns
unfolding plan_of
returns c =
    let x = c.args in
    let h = c.requires in
    let p = plan_in x.plan.now.sheet in
    let a = c.activity_of-activity.ensures in
    let k = c.activity_of-activity.result.calendar in
    let e : k ≡ (p.activity x.i).calendar = ap (λ (a : Activity). a.calendar) a in
    let n : k ≤ x.plan.now.sheet.contents.calendars = omega (arith, e, h.0.named x.i h.1) in
    c.shown_of.ensures p
    ∙ row_is p (state x.tables.now) x.i _ _ _ _ _ _ h.2 (ap (λ (a : Activity). a.kind) a)
    (h.0.days.is k n ∙ ap p.day_length e)
    (in_plan_worked c.calendar-calendar.ensures
    ∙ ap (λ (j : ℕ). worked (p.hours j)) e)
    (ap Ok c.recorded_at-actual.ensures ∙ h.0.recorded x.i h.1) c.times_at-t.ensures.0
