-- `sched::accept` meets its contract.
use mathlib.Core.Path.{◌∙◌}
use mir.Facts.{to_z-of_z}
use mir.Syntax.{w64}
use Rattle.memory.specs.Seen.{state}
use Rattle.order.specs.Plan.{plan_in}
use Rattle.results.specs.View.{ran_in}
use Rattle.sched.proofs.CallLaws.{accepted_as}
use Rattle.sched.proofs.accept.Goals as goal

pub returns : goal.returns
returns c =
    let x = c.args in
    let day = c.finish_day-day in
    let rows = c.write_rows in (
      λ e other. accepted_as x.sheet.now.bytes.now x.sheet.now.contents _ (to_z-of_z {w = w64} (record { sfits = day.type_inv }) ∙ day.ensures (ran_in (plan_in x.sheet.now) (state x.tables.now) e other)) (rows.ensures e other),
      c.clear.ensures.0,
      c.clear.ensures.1,
    )
