-- `rollup::summed_of` meets its contract.
use borrow.Author.Rules.{rules}
use mathlib.Core.Path.{◌≡◌, sym, ap, ◌∙◌}
use mathlib.Core.Bool.{Bool}
use Prim.Native.Nat.{ℕ, ◌≤◌}
use native.Mathlib.Omega.{arith}
use mir.Facts.{to_z-of_z}
use mir.Syntax.{w64}
use mir.Val.{SFits}
use Rattle.calendar.specs.Hours.{worked}
use Rattle.worktime.specs.Walks.{between}
use Rattle.project.specs.declared.Activity.{Activity}
use Rattle.order.specs.Plan.{plan_of, plan_in}
use Rattle.calendars.specs.CalendarLaws.{in_plan_worked}
use Rattle.results.specs.Showing.{critical_in}
use Rattle.number.specs.Exits.{handed_on}
use Rattle.passes.specs.Dates.{leaves}
use Rattle.rollup.specs.RollingLaws.{summed_at, summed_refused}
use Rattle.rollup.proofs.summed_of.Goals as goal

pub is_critical-critical-requires : goal.is_critical-critical-requires
unfolding plan_of
is_critical-critical-requires c =
    let x = c.args in
    let h = c.requires in
    let p = plan_in x.plan.now.sheet in
    let k = c.activity_of-activity.result.calendar in
    let e : k ≡ (p.activity x.s).calendar = ap (λ (a : Activity). a.calendar) c.activity_of-activity.ensures in
    let n : k ≤ x.plan.now.sheet.contents.calendars = omega (arith, e, h.2) in omega (arith, h.0.is k n, h.0.low k n)

pub returns : goal.returns
unfolding plan_of
returns c =
    let x = c.args in
    let h = c.requires in
    let p = plan_in x.plan.now.sheet in
    let k = c.activity_of-activity.result.calendar in
    let e : k ≡ (p.activity x.s).calendar = ap (λ (a : Activity). a.calendar) c.activity_of-activity.ensures in
    let n : k ≤ x.plan.now.sheet.contents.calendars = omega (arith, e, h.2) in
    let f : SFits w64 c.in_ok-total.total = record { sfits = search rules } in
    let g = rw (to_z-of_z f) at c.is_critical-critical.ensures in
    let l = h.0.is k n ∙ ap p.day_length e in
    ap leaves c.new.ensures ∙ summed_at p x.s x.x.now.shown c.in_ok-total.total _ _ (sym (c.between.ensures ∙ ap (λ (v : ℕ → Bool). between v x.x.now.shown.finish x.x.now.shown.late) (in_plan_worked c.calendar-calendar.ensures ∙ ap (λ (j : ℕ). worked (p.hours j)) e)) ∙ c.in_ok-total.was) (to_z-of_z f) (g ∙ (λ t. critical_in (h.3 t).critical_by (l t) c.in_ok-total.total x.x.now.shown.path))

pub returns-in_err-total : goal.returns-in_err-total
unfolding plan_of
returns-in_err-total c = rw (handed_on _ _ c.from_residual.ensures.1) (let x = c.args in
    let h = c.requires in
    let p = plan_in x.plan.now.sheet in
    let k = c.activity_of-activity.result.calendar in
    let e : k ≡ (p.activity x.s).calendar = ap (λ (a : Activity). a.calendar) c.activity_of-activity.ensures in
    let n : k ≤ x.plan.now.sheet.contents.calendars = omega (arith, e, h.2) in
    summed_refused p x.s x.x.now.shown _ (sym (c.between.ensures ∙ ap (λ (v : ℕ → Bool). between v x.x.now.shown.finish x.x.now.shown.late) (in_plan_worked c.calendar-calendar.ensures ∙ ap (λ (j : ℕ). worked (p.hours j)) e)) ∙ c.in_err-total.was))
