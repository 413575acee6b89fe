-- `longest::path_pass` meets its contract: the marks of what finishes the project, and then the pass back along the order.
use mathlib.Core.Path.{sym, ◌∙◌}
use Rattle.memory.specs.Seen.{state}
use Rattle.memory.specs.SeenLaws.{same_then}
use Rattle.topology.specs.FrameLaws.{frame_then}
use Rattle.order.specs.Plan.{plan_in}
use Rattle.passes.specs.Floats.{last_ones}
use Rattle.dates.specs.Columns.{early_in, path_in, ended}
use Rattle.bounds.specs.ReadyLaws.{activities_are}
use Rattle.longest.specs.WalkLaws.{pass_is}
use Rattle.longest.proofs.path_pass.Goals as goal

pub returns : goal.returns
returns c =
    let x = c.args in
    let p = plan_in x.plan.now.sheet in
    let S₀ = state x.tables.now in
    let m = c.mark_last in
    let b = c.back in
    let S = state m.new.tables in
    let T = state b.new.tables in
    let other = last_ones p (early_in p S₀) x.finish in (
      pass_is p S₀ S m.ensures.1 x.finish (ended (path_in p T other) b.result)
          (m.ensures.0 p x.tables.now.kept (activities_are x.plan.now.sheet.bytes.now x.plan.now.sheet.contents ∙ sym c.requires.ready.activities) c.requires.ready.standing c.requires.recorded) (b.ensures.0 other),
      frame_then 16 17 0 0 m.ensures.1 b.ensures.1,
      same_then m.ensures.2 b.ensures.2,
    )
