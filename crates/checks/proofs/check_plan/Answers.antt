-- `checks::check_plan` meets its contract.
use mathlib.Core.Path.{refl, sym, ap, subst, ◌∙◌}
use Prim.Native.Nat.{ℕ}
use lib.IntN.{pos}
use lib.ListN.{length, replicate}
use Rattle.std.specs.Prelude.{Err}
use Rattle.memory.specs.SeenLaws.{same_then, same_lent, lent_then}
use Rattle.order.specs.Plan.{plan_in}
use Rattle.ids.specs.AnswerLaws.{fine_number}
use Rattle.ids.specs.LentLaws.{still_lent, lent_left}
use Rattle.checks.specs.Stages.{ids_verdict, summaries_verdict, PlanChecked}
use Rattle.checks.specs.StageLaws.{then_judged, first_refused, plain_refused, judged_sizes}
use Rattle.checks.specs.PlanSteps.{plan_checked_lem}
use Rattle.checks.proofs.check_plan.Goals as goal

pub returns-in-Err : goal.returns-in-Err
returns-in-Err c =
    let x = c.args in
    let p = plan_in x.plan.now.sheet in
    let size = length x.names.now in
    let room = length x.tables.now.cells.now in
    let a = c.in-Err.ensures in
    let r = c.refuse.ensures in
    let m = same_then a.1 r.3 in (
      subst (PlanChecked x.plan.now x.names.now x.tables.now _ _) (sym r.0)
          (plan_checked_lem x.plan.now x.names.now x.tables.now _ _ (still_lent c.requires.0 m)
          (Err c.in-Err.error)
          (first_refused p (ids_verdict p) (summaries_verdict p) size room _ _
          (plain_refused p (ids_verdict p) size room _ _ c.in-Err.error (sym a.0.answered.is) r.1 (r.2 ∙ ap (λ (k : ℕ). replicate k (pos 0)) a.1.cells)))),
      same_lent m,
    )

pub returns-in-Ok : goal.returns-in-Ok
returns-in-Ok c =
    let x = c.args in
    let p = plan_in x.plan.now.sheet in
    let a = c.in-Ok.ensures in
    let o = c.check_summaries in
    let names = o.new.names in
    let tables = o.new.tables in
    let m = lent_then (same_lent a.1) o.ensures.1 in (
      plan_checked_lem x.plan.now x.names.now x.tables.now names tables (lent_left c.requires.0 m) o.result
          (then_judged p (ids_verdict p) (summaries_verdict p) (length x.names.now) (length x.tables.now.cells.now) names tables (fine_number a.0.answered) o.result
          (judged_sizes p (summaries_verdict p) names tables o.result refl a.1.cells o.ensures.0)),
      m,
    )
