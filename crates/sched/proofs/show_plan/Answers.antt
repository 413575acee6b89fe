-- `sched::show_plan` meets its contract.
use Rattle.std.specs.Prelude.{Err}
use mathlib.Core.Path.{refl, sym, ap, subst, ◌∙◌}
use native.Mathlib.Omega.{arith}
use Rattle.memory.specs.Seen.{state}
use Rattle.memory.specs.SeenLaws.{same_then}
use Rattle.order.specs.Plan.{plan_in}
use Rattle.passes.specs.Run.{Ran}
use Rattle.dates.specs.Columns.{ended}
use Rattle.results.specs.View.{ran_in, shown_in}
use Rattle.results.specs.ViewLaws.{ran_kept}
use Rattle.rows.specs.WritingLaws.{to_write}
use Rattle.dates.specs.KeptLaws.{ready_kept, recorded_kept}
use Rattle.sched.specs.CallLaws.{AcceptedAs}
use Rattle.sched.proofs.CallLaws.{show_refuses, show_accepts}
use Rattle.sched.proofs.show_plan.Goals as goal

pub returns-in-Err : goal.returns-in-Err
returns-in-Err c =
    let x = c.args in
    let p = plan_in x.plan.now.sheet in
    let S = state x.tables.now in
    let shown = c.results in
    let call = c.refuse in
    let other = c.requires.5.other in
    let T = state shown.new.tables in (
      λ m L.
          show_refuses m p L c.requires.0.fine (ran_in p S x.last other) c.requires.5.is call.result c.in-Err.e call.new.names shown.new.tables.cells.now call.new.tables.cells.now
          (sym (shown.ensures.0 x.last other) ∙ ap (ended (shown_in p T)) c.in-Err.is) (call.ensures.0 ∙ ap Err c.from.ensures) call.ensures.1 shown.ensures.2.cells call.ensures.2,
      same_then shown.ensures.2 call.ensures.3,
    )

pub accept-requires : goal.accept-requires
accept-requires c =
    let x = c.args in
    let shown = c.results in (
      to_write
          (ready_kept c.requires.0 shown.ensures.1 shown.ensures.2 (omega arith))
          c.requires.2 (recorded_kept shown.ensures.1 (plan_in x.plan.now.sheet) refl refl refl c.requires.1),
      c.requires.3,
    )

pub returns-in-Ok : goal.returns-in-Ok
returns-in-Ok c =
    let x = c.args in
    let p = plan_in x.plan.now.sheet in
    let S = state x.tables.now in
    let shown = c.results in
    let call = c.accept in
    let other = c.requires.5.other in
    let T = state shown.new.tables in
    let ran = ran_in p S x.last other in
    let f = shown_in p T in
    let A = subst (λ (q : Ran). AcceptedAs p q f x.counts x.results.now call.new.results call.result) (ran_kept shown.ensures.1 p x.last other (omega arith)) (call.ensures.0 x.last other) in (
      λ m L.
          show_accepts m p L c.requires.0.fine ran c.requires.5.is f (sym (shown.ensures.0 x.last other) ∙ ap (ended f) c.in-Ok.is) A c.requires.4 shown.new.tables.cells.now call.new.tables.cells.now shown.ensures.2.cells call.ensures.1,
      same_then shown.ensures.2 call.ensures.2,
    )
