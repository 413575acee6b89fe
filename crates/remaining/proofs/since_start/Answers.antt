-- `remaining::since_start` meets its contract: each way out has its law.
use Rattle.std.specs.Prelude.{Ok}
use borrow.Author.Rules.{rules}
use mathlib.Core.Path.{sym, ap, ◌∙◌}
use Prim.Native.Nat.{ℕ, ◌-◌, max}
use mir.Facts.{to_z-of_z}
use mir.Syntax.{w64}
use mir.Val.{SFits}
use Rattle.worktime.specs.Walks.{between}
use Rattle.order.specs.Plan.{plan_in}
use Rattle.calendars.specs.CalendarLaws.{in_plan_worked}
use Rattle.dates.specs.ReadLaws.{plan_data_date}
use Rattle.number.specs.Exits.{handed_on}
use Rattle.remaining.specs.LeftLaws.{since_none, since_done, since_refused}
use Rattle.project.specs.Records.{project_at}
use Rattle.remaining.proofs.since_start.Goals as goal

pub returns-in-None : goal.returns-in-None
unfolding project_at
returns-in-None c =
    let x = c.args in
    sym
    (since_none (plan_in x.sheet.now) x.i x.start _ x.work.now.left
    (sym (plan_data_date x.sheet.now.bytes.now x.sheet.now.contents) ∙ sym c.data_date.ensures ∙ c.in-None.is) c.requires.1)

pub returns-in_ok-done-in-Some : goal.returns-in_ok-done-in-Some
unfolding project_at
returns-in_ok-done-in-Some c =
    let x = c.args in
    let f : SFits w64 c.in_ok-done-in-Some.done = record { sfits = search rules } in
    let n = c.saturating_sub.ensures ∙ ap (λ (m : ℕ). x.work.now.left - m) (rw (to_z-of_z f) at c.upward.ensures.0) in
    let u = c.max-by.ensures ∙ ap (λ (m : ℕ). max m x.start) c.midnight.ensures.0 in
    ap Ok n
    ∙ sym
    (since_done (plan_in x.sheet.now) x.i x.start _ _ x.work.now.left _
    (sym (plan_data_date x.sheet.now.bytes.now x.sheet.now.contents) ∙ sym c.data_date.ensures ∙ c.in-Some.is) c.requires.1
    ((λ z. between (sym (in_plan_worked c.requires.0.in_plan) z) x.start (sym u z)) ∙ sym c.between.ensures ∙ c.in_ok-done-in-Some.was))

pub returns-in_err-done-in-Some : goal.returns-in_err-done-in-Some
unfolding project_at
returns-in_err-done-in-Some c = rw (handed_on _ _ c.from_residual.ensures.1) (let x = c.args in
    let u = c.max-by.ensures ∙ ap (λ (m : ℕ). max m x.start) c.midnight.ensures.0 in
    sym
    (since_refused (plan_in x.sheet.now) x.i x.start _ _ _
    (sym (plan_data_date x.sheet.now.bytes.now x.sheet.now.contents) ∙ sym c.data_date.ensures ∙ c.in-Some.is)
    ((λ z. between (sym (in_plan_worked c.requires.0.in_plan) z) x.start (sym u z)) ∙ sym c.between.ensures ∙ c.in_err-done-in-Some.was)))
