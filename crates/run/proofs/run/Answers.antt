-- `run::run` meets its contract.
use native.Mathlib.Omega.{arith}
use Rattle.memory.specs.Seen.{state}
use Rattle.topology.specs.FrameLaws.{frame_acts}
use Rattle.order.specs.Plan.{plan_in}
use Rattle.number.specs.Exits.{handed_on}
use Rattle.run.specs.Stages.{early_dates}
use Rattle.run.specs.RunLaws.{not_by, run_early}
use Rattle.run.proofs.run.Goals as goal

pub returns-in_err-early_dates : goal.returns-in_err-early_dates
returns-in_err-early_dates c = rw (handed_on _ _ c.from_residual.ensures.1) (let x = c.args in
    let p = plan_in x.plan.now.sheet in
    let call = c.early_dates in
    let T = state call.new.tables in (
      run_early p T T call.result c.in_err-early_dates.field-0.0 call.ensures.0 c.in_err-early_dates.was,
      λ e d. not_by c.in_err-early_dates.field-0.0 e d,
      frame_acts 10 20 0 0 12 20 (omega arith) (omega arith) call.ensures.2,
      call.ensures.3,
    ))
