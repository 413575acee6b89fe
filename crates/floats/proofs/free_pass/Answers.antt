-- `floats::free_pass` meets its contract.
use mathlib.Core.Path.{refl, ap, ◌∙◌}
use Prim.Native.Nat.{ℕ}
use native.Mathlib.Omega.{arith}
use mathlib.Core.List.{reverse}
use Rattle.memory.specs.Seen.{state}
use Rattle.memory.specs.SeenLaws.{same_then}
use Rattle.memory.specs.State.{fill_act}
use Rattle.memory.specs.Fields.{free_float}
use Rattle.topology.specs.Frame.{Frame}
use Rattle.topology.specs.FrameLaws.{frame_fill, frame_then}
use Rattle.order.specs.Plan.{plan_in}
use Rattle.order.specs.Checks.{order}
use Rattle.dates.specs.KeptLaws.{ready_kept, recorded_kept}
use Rattle.floats.specs.PassLaws.{pass_cleared}
use Rattle.floats.proofs.free_pass.Goals as goal

pub back-requires-clause-ready : goal.back-requires-clause-ready
back-requires-clause-ready c =
    let x = c.args in
    let S = state x.tables.now in
    let T = state c.fill_act.new.self in
    let h = c.fill_act.ensures in
    let g = h.0 ∙ ap (λ (m : ℕ). fill_act S free_float m 0) c.requires.ready.activities in
    let F : Frame 12 16 0 0 S T = rw g (frame_fill 12 16 0 0 free_float (omega arith) (omega arith) S x.plan.now.sheet.contents.activities 0) in
    record { ready = ready_kept c.requires.ready F h.1 (omega arith); recorded = recorded_kept F (plan_in x.plan.now.sheet) refl refl refl c.requires.recorded }

pub returns : goal.returns
returns c =
    let x = c.args in
    let S = state x.tables.now in
    let T = state c.fill_act.new.self in
    let h = c.fill_act.ensures in
    let g = h.0 ∙ ap (λ (m : ℕ). fill_act S free_float m 0) c.requires.ready.activities in
    let F : Frame 12 16 0 0 S T = rw g (frame_fill 12 16 0 0 free_float (omega arith) (omega arith) S x.plan.now.sheet.contents.activities 0) in
    let r = c.back.ensures in
    (λ e. r.0 e ∙ pass_cleared x.plan.now.sheet.bytes.now x.plan.now.sheet.contents F g x.finish (reverse (order (plan_in x.plan.now.sheet))) e, frame_then 12 16 0 0 F r.1, same_then h.1 r.2)
