-- `floats::slack_of` meets its contract. Each way out has its law.
use borrow.Author.Rules.{rules}
use mathlib.Core.Path.{sym, ◌∙◌}
use native.Mathlib.Omega.{arith}
use mir.Syntax.{w64}
use mir.Facts.{to_z-of_z}
use Rattle.std.specs.Prelude.{◌≡◌}
use Rattle.clock.specs.On.{worked_by}
use Rattle.memory.specs.Seen.{state}
use Rattle.order.specs.Plan.{plan_in}
use Rattle.calendars.specs.CalendarLaws.{in_plan_worked}
use Rattle.bounds.specs.ReadyLaws.{activities_are}
use Rattle.number.specs.Exits.{handed_on}
use Rattle.floats.specs.StoreLaws.{ef_at}
use Rattle.floats.specs.GapLaws.{from_counted, slack_found, slack_refused}
use Rattle.floats.proofs.slack_of.Goals as goal

pub counted_from-from-requires : goal.counted_from-from-requires
counted_from-from-requires c = omega (arith, c.requires.0.ready.activities, c.requires.1)

pub least_slack-requires : goal.least_slack-requires
least_slack-requires c =
    let x = c.args in
    let q = c.requires in
    let a : (plan_in x.plan.now.sheet).activities ≡ x.tables.now.activities =
    omega (arith, q.0.ready.activities, activities_are x.plan.now.sheet.bytes.now x.plan.now.sheet.contents) in
    (q.0.ready, q.1, q.2, from_counted q.0.ready x.i q.1 _ _ (c.counted_from-from.ensures.0 _ a q.0.recorded) c.counted_from-from.ensures.1)

pub returns : goal.returns
returns c =
    let x = c.args in
    let q = c.requires in
    let p = plan_in x.plan.now.sheet in
    let S = state x.tables.now in
    let w = worked_by x.calendar.now in
    let l = ef_at p S x.i (omega (arith, activities_are x.plan.now.sheet.bytes.now x.plan.now.sheet.contents, q.1)) in
    let e = rw (to_z-of_z {w = w64} {z = c.in_ok-slack.slack} (record { sfits = search rules })) at c.least_slack.ensures in
    e ∙ slack_found q.0.ready x.i x.finish _ w (in_plan_worked q.2) (c.counted_from-from.ensures.1 ∙ sym l) _ (sym c.between.ensures ∙ c.in_ok-slack.was)

pub returns-in_err-slack : goal.returns-in_err-slack
returns-in_err-slack c = rw (handed_on _ _ c.from_residual.ensures.1) (let x = c.args in
    let q = c.requires in
    let p = plan_in x.plan.now.sheet in
    let S = state x.tables.now in
    let w = worked_by x.calendar.now in
    let l = ef_at p S x.i (omega (arith, activities_are x.plan.now.sheet.bytes.now x.plan.now.sheet.contents, q.1)) in
    slack_refused q.0.ready x.i x.finish _ w (in_plan_worked q.2) (c.counted_from-from.ensures.1 ∙ sym l) _ (sym c.between.ensures ∙ c.in_err-slack.was))
