-- `floats::FreeFloatsStep::take` meets its contract. Each way out has its law.
use mathlib.Core.Path.{◌≡◌, sym, ◌∙◌}
use native.Mathlib.Omega.{arith}
use Prim.Native.Nat.{◌<◌}
use Rattle.memory.specs.Seen.{state}
use Rattle.memory.specs.SeenLaws.{same_refl}
use Rattle.topology.specs.FrameLaws.{frame_refl}
use Rattle.order.specs.Plan.{plan_in}
use Rattle.bounds.specs.ReadyLaws.{activities_are}
use Rattle.number.specs.Exits.{handed_on}
use Rattle.floats.specs.StoreLaws.{free_found, free_refused}
use Rattle.floats.proofs.FreeFloatsStep.take.Goals as goal

pub work_of-work-requires : goal.work_of-work-requires
work_of-work-requires c = (c.requires.0.ready.activities, c.requires.1)

pub free_of-requires : goal.free_of-requires
free_of-requires c = (c.requires.0, c.requires.1, c.work_of-work.ensures.0.in_plan)

pub use_float-requires : goal.use_float-requires
use_float-requires c = (omega (arith, c.requires.0.ready.activities, c.requires.1), c.free_of.ensures.1 _ c.in_ok-free.was)

pub returns : goal.returns
returns c =
    let x = c.args in
    let q = c.requires in
    let p = plan_in x.plan.now.sheet in
    let S = state x.tables.now in
    let i : x.i < p.activities = omega (arith, activities_are x.plan.now.sheet.bytes.now x.plan.now.sheet.contents, q.1) in
    let r = c.use_float.ensures in
    let a : p.activities ≡ x.tables.now.activities = activities_are x.plan.now.sheet.bytes.now x.plan.now.sheet.contents ∙ sym q.0.ready.activities in
    (λ e. r.0 p a q.0.ready.standing q.0.recorded c.work_of-work.ensures.1 ∙ free_found p S x.i i x.self.now.finish e _ c.free_of.ensures.0 _ c.in_ok-free.was, r.1, r.2)

pub returns-in_err-free : goal.returns-in_err-free
returns-in_err-free c = rw (handed_on _ _ c.from_residual.ensures.1) (let x = c.args in
    let q = c.requires in
    let p = plan_in x.plan.now.sheet in
    let S = state x.tables.now in
    let i : x.i < p.activities = omega (arith, activities_are x.plan.now.sheet.bytes.now x.plan.now.sheet.contents, q.1) in
    (λ e. free_refused p S x.i i x.self.now.finish e _ c.free_of.ensures.0 _ c.in_err-free.was, frame_refl 12 16 0 0 S, same_refl x.tables.now))
