-- `run::float_dates` meets its contract.
use native.Mathlib.Omega.{arith}
use Rattle.memory.specs.Seen.{state}
use Rattle.memory.specs.SeenLaws.{same_then}
use Rattle.order.specs.Plan.{plan_in}
use Rattle.topology.specs.FrameLaws.{frame_acts, frame_then}
use Rattle.run.specs.RunLaws.{floats_go}
use Rattle.run.proofs.float_dates.Goals as goal

pub returns : goal.returns
returns c =
    let x = c.args in
    let first = c.free_pass in
    let second = c.path_pass in
    let a = first.ensures in
    let b = second.ensures in
    let S = state x.tables.now in
    let T₁ = state first.new.tables in
    let T = state second.new.tables in (
      floats_go (plan_in x.plan.now.sheet) x.finish S T₁ T first.result a.0 b.1 c.in_ok-free_pass.was second.result b.0,
      frame_then 12 17 0 0 (frame_acts 12 17 0 0 12 16 (omega arith) (omega arith) a.1) (frame_acts 12 17 0 0 16 17 (omega arith) (omega arith) b.1),
      same_then a.2 b.2,
    )
