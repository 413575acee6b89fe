-- `sched::run_plan` meets its contract.
use Rattle.std.specs.Prelude.{Err}
use mathlib.Core.Path.{ap, subst, ◌∙◌}
use native.Mathlib.Omega.{arith}
use Rattle.memory.specs.Seen.{state}
use Rattle.memory.specs.SeenLaws.{same_then}
use Rattle.order.specs.Plan.{plan_in}
use Rattle.run.specs.Stages.{RunIn}
use Rattle.dates.specs.KeptLaws.{ready_kept}
use Rattle.sched.proofs.CallLaws.{run_refuses}
use Rattle.sched.proofs.run_plan.Goals as goal

pub returns-in-Err : goal.returns-in-Err
returns-in-Err c =
    let x = c.args in
    let p = plan_in x.plan.now.sheet in
    let ran = c.run in
    let call = c.refuse in (
      λ m L.
          run_refuses m p L c.requires.0.fine call.result c.in-Err.error call.new.names ran.new.tables.cells.now call.new.tables.cells.now (subst (RunIn p (state ran.new.tables)) c.in-Err.is ran.ensures.0) (call.ensures.0 ∙ ap Err c.from.ensures) call.ensures.1
          ran.ensures.3.cells call.ensures.2,
      same_then ran.ensures.3 call.ensures.3,
    )

pub show_plan-requires : goal.show_plan-requires
show_plan-requires c =
    let x = c.args in
    let p = plan_in x.plan.now.sheet in
    let ran = c.run in (
      ready_kept c.requires.0 ran.ensures.2 ran.ensures.3 (omega arith),
      ran.ensures.1 c.in-Ok.last c.in-Ok.is,
      c.requires.1,
      c.requires.2,
      c.requires.3,
      subst (RunIn p (state ran.new.tables)) c.in-Ok.is ran.ensures.0,
    )

pub returns-in-Ok : goal.returns-in-Ok
returns-in-Ok c =
    let x = c.args in
    let p = plan_in x.plan.now.sheet in
    let ran = c.run in
    (λ m L. c.show_plan.ensures.0 m (record { results_is = L.results_is; names_is = L.names_is; names_length = L.names_length; work_length = ran.ensures.3.cells ∙ L.work_length }), same_then ran.ensures.3 c.show_plan.ensures.1)
