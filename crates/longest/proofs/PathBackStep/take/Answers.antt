-- `longest::PathBackStep::take` meets its contract, each way out by its law.
use mathlib.Core.Path.{sym, ◌∙◌}
use native.Mathlib.Omega.{arith}
use Rattle.memory.specs.Seen.{state}
use Rattle.memory.specs.SeenLaws.{same_refl}
use Rattle.topology.specs.FrameLaws.{frame_refl}
use Rattle.order.specs.Plan.{plan_in}
use Rattle.bounds.specs.ReadyLaws.{activities_are}
use Rattle.longest.specs.WalkLaws.{turn_on, turn_off}
use Rattle.longest.proofs.PathBackStep.take.Goals as goal

pub returns-then-act-eq0 : goal.returns-then-act-eq0
returns-then-act-eq0 c =
    let x = c.args in
    let p = plan_in x.plan.now.sheet in
    let S = state x.tables.now in (
      λ other.
          sym
          (turn_off p S x.i (omega (arith, c.requires.1, activities_are x.plan.now.sheet.bytes.now x.plan.now.sheet.contents)) other c.act.result c.act.ensures.0 c.if-act-eq0.true),
      frame_refl 16 17 0 0 S,
      same_refl x.tables.now,
    )

pub work_of-work-requires : goal.work_of-work-requires
work_of-work-requires c = (c.requires.0.ready.activities, c.requires.1)

pub mark_links-requires : goal.mark_links-requires
mark_links-requires c = (c.requires.0, c.work_of-work.ensures.1, c.requires.1)

pub returns : goal.returns
returns c =
    let x = c.args in
    let p = plan_in x.plan.now.sheet in
    let S = state x.tables.now in
    let m = c.mark_links.ensures in (
      λ other.
          m.0 other
          ∙ sym
          (turn_on p S x.i (omega (arith, c.requires.1, activities_are x.plan.now.sheet.bytes.now x.plan.now.sheet.contents)) other c.act.result c.act.ensures.0 c.if-act-eq0.false),
      m.1,
      m.2,
    )
