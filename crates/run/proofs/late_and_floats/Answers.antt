-- `run::late_and_floats` meets its contract.
use mathlib.Core.Path.{subst}
use native.Mathlib.Omega.{arith}
use Rattle.memory.specs.Seen.{state}
use Rattle.memory.specs.SeenLaws.{same_then}
use Rattle.topology.specs.FrameLaws.{frame_acts, frame_then}
use Rattle.order.specs.Plan.{plan_in}
use Rattle.dates.specs.Columns.{early_in}
use Rattle.number.specs.Exits.{handed_on}
use Rattle.run.specs.Stages.{LateIn}
use Rattle.run.specs.RunLaws.{run_late, run_floats, run_whole}
use Rattle.run.proofs.late_and_floats.Goals as goal

pub returns-in_err-last : goal.returns-in_err-last
returns-in_err-last c = rw (handed_on _ _ c.from_residual.ensures.1) (let x = c.args in
    let p = plan_in x.plan.now.sheet in
    let S = state x.tables.now in
    let call = c.late_dates in
    let T = state call.new.tables in (
      run_late p S c.requires.1 T T call.result c.in_err-last.field-0.0 call.ensures.0 c.in_err-last.was,
      frame_acts 10 17 0 0 10 12 (omega arith) (omega arith) call.ensures.1,
      call.ensures.2,
    ))

pub returns-in_err-float_dates : goal.returns-in_err-float_dates
returns-in_err-float_dates c = rw (handed_on _ _ c.from_residual-in_err-float_dates.ensures.1) (let x = c.args in
    let p = plan_in x.plan.now.sheet in
    let S = state x.tables.now in
    let first = c.late_dates in
    let second = c.float_dates in
    let T₁ = state first.new.tables in
    let T = state second.new.tables in
    let l = subst (LateIn p (early_in p S) T₁) c.in_ok-last.was first.ensures.0 in (
      run_floats p S c.requires.1 T₁ T c.in_ok-last.last first.ensures.1 second.ensures.1 l c.greatest_finish-finish.result c.greatest_finish-finish.ensures.0 second.result second.ensures.0 c.in_err-float_dates.field-0.0 c.in_err-float_dates.was,
      frame_then 10 17 0 0 (frame_acts 10 17 0 0 10 12 (omega arith) (omega arith) first.ensures.1) (frame_acts 10 17 0 0 12 17 (omega arith) (omega arith) second.ensures.1),
      same_then first.ensures.2 second.ensures.2,
    ))

pub returns : goal.returns
returns c =
    let x = c.args in
    let p = plan_in x.plan.now.sheet in
    let S = state x.tables.now in
    let first = c.late_dates in
    let second = c.float_dates in
    let T₁ = state first.new.tables in
    let T = state second.new.tables in
    let l = subst (LateIn p (early_in p S) T₁) c.in_ok-last.was first.ensures.0 in (
      run_whole p S c.requires.1 T₁ T c.in_ok-last.last first.ensures.1 second.ensures.1 l c.greatest_finish-finish.result c.greatest_finish-finish.ensures.0 second.result second.ensures.0 c.in_ok-float_dates.was,
      frame_then 10 17 0 0 (frame_acts 10 17 0 0 10 12 (omega arith) (omega arith) first.ensures.1) (frame_acts 10 17 0 0 12 17 (omega arith) (omega arith) second.ensures.1),
      same_then first.ensures.2 second.ensures.2,
    )
