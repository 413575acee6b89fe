-- `run::late_dates` meets its contract.
use mathlib.Core.Path.{sym, ◌∙◌}
use Rattle.memory.specs.Seen.{state}
use Rattle.memory.specs.SeenLaws.{same_refl}
use Rattle.topology.specs.FrameLaws.{frame_refl}
use Rattle.order.specs.Plan.{plan_in}
use Rattle.dates.specs.Columns.{early_in}
use Rattle.number.specs.Exits.{handed_on}
use Rattle.run.specs.RunLaws.{late_ends, late_stops, late_goes}
use Rattle.run.proofs.late_dates.Goals as goal

pub returns-in_err-last : goal.returns-in_err-last
returns-in_err-last c = rw (handed_on _ _ c.from_residual.ensures.1) (let x = c.args in
    let p = plan_in x.plan.now.sheet in
    let S = state x.tables.now in (
      late_ends p S S c.in_err-last.field-0.0 (sym (c.end_of.ensures.0 (early_in p S) c.requires.1) ∙ c.in_err-last.was),
      frame_refl 10 12 0 0 S,
      same_refl _,
    ))

pub returns-in_err-backward_pass : goal.returns-in_err-backward_pass
returns-in_err-backward_pass c = rw (handed_on _ _ c.from_residual-in_err-backward_pass.ensures.1) (let x = c.args in
    let p = plan_in x.plan.now.sheet in
    let S = state x.tables.now in
    let call = c.backward_pass in
    let T = state call.new.tables in (
      late_stops p S T c.in_ok-last.last (sym (c.end_of.ensures.0 (early_in p S) c.requires.1) ∙ c.in_ok-last.was) call.result call.ensures.0 c.in_err-backward_pass.field-0.0 c.in_err-backward_pass.was,
      call.ensures.1,
      call.ensures.2,
    ))

pub returns : goal.returns
returns c =
    let x = c.args in
    let p = plan_in x.plan.now.sheet in
    let S = state x.tables.now in
    let call = c.backward_pass in
    let T = state call.new.tables in (
      late_goes p S T c.in_ok-last.last (sym (c.end_of.ensures.0 (early_in p S) c.requires.1) ∙ c.in_ok-last.was) call.result call.ensures.0 c.in_ok-backward_pass.was,
      call.ensures.1,
      call.ensures.2,
    )
