-- `floats::free_of` meets its contract. Each way out has its law.
use Rattle.std.specs.Prelude.{Ok}
use borrow.Author.Rules.{rules}
use mathlib.Core.Path.{refl, sym, ap, ◌∙◌}
use native.Mathlib.Omega.{arith}
use Prim.Native.Nat.{ℕ, ◌<◌}
use mir.Syntax.{w64}
use mir.Facts.{to_z-of_z}
use Rattle.worktime.specs.Reads.{at_or_refused}
use Rattle.clock.specs.On.{worked_by}
use Rattle.memory.specs.Seen.{state}
use Rattle.order.specs.Plan.{plan_in}
use Rattle.calendars.specs.CalendarLaws.{in_plan_worked}
use Rattle.dates.specs.Columns.{early_in}
use Rattle.bounds.specs.ReadyLaws.{activities_are}
use Rattle.placing.proofs.PlacingSound.{same_time}
use Rattle.number.specs.Exits.{handed_on}
use Rattle.floats.specs.Slack.{free_of}
use Rattle.floats.specs.StoreLaws.{ef_at}
use Rattle.floats.specs.GapLaws.{free_of_found, free_of_late, free_of_refused}
use Rattle.floats.proofs.free_of.Goals as goal

pub returns : goal.returns
returns c =
    let x = c.args in
    let q = c.requires in
    let p = plan_in x.plan.now.sheet in
    let S = state x.tables.now in
    let d = early_in p S in
    let w = worked_by x.calendar.now in
    let i : x.i < p.activities = omega (arith, activities_are x.plan.now.sheet.bytes.now x.plan.now.sheet.contents, q.1) in
    let f =
    rw (to_z-of_z {w = w64} {z = c.in_ok-slack.slack} (record { sfits = search rules }), to_z-of_z {w = w64} {z = c.in_ok-total.total} (record { sfits = search rules }))
    at (c.free_by.ensures.0 p d)
    in (
      free_of_found q.0.ready x.i x.finish _ c.slack_of.ensures _ _ c.in_ok-slack.was _ w (in_plan_worked q.2) (c.act-ef.ensures.0 ∙ sym (ef_at p S x.i i)) _
          (sym c.between.ensures ∙ c.in_ok-total.was) _ (ap Ok c.recorded_at-recorded.ensures ∙ q.0.recorded x.i i) _ f
          ∙ ap (λ (u : ℕ). free_of p d x.finish u x.i) c.act-lf.ensures.0,
      λ m e. let k = same_time refl e in omega (arith, c.free_by.ensures.1),
    )

pub returns-in_err-total : goal.returns-in_err-total
returns-in_err-total c = rw (handed_on _ _ c.from_residual-in_err-total.ensures.1) (let x = c.args in
    let q = c.requires in
    let p = plan_in x.plan.now.sheet in
    let S = state x.tables.now in
    let d = early_in p S in
    let w = worked_by x.calendar.now in
    let i : x.i < p.activities = omega (arith, activities_are x.plan.now.sheet.bytes.now x.plan.now.sheet.contents, q.1) in (
      free_of_late q.0.ready x.i x.finish _ c.slack_of.ensures _ _ c.in_ok-slack.was _ w (in_plan_worked q.2) (c.act-ef.ensures.0 ∙ sym (ef_at p S x.i i)) _
          (sym c.between.ensures ∙ c.in_err-total.was)
          ∙ ap (λ (u : ℕ). free_of p d x.finish u x.i) c.act-lf.ensures.0,
      λ m e. absurd (at_or_refused e refl),
    ))

pub returns-in_err-slack : goal.returns-in_err-slack
returns-in_err-slack c = rw (handed_on _ _ c.from_residual.ensures.1) (let x = c.args in
    let q = c.requires in
    let p = plan_in x.plan.now.sheet in
    let S = state x.tables.now in
    let d = early_in p S in
    (free_of_refused q.0.ready x.i x.finish _ c.slack_of.ensures _ _ c.in_err-slack.was, λ m e. absurd (at_or_refused e refl)))
