-- `forward::forward_pass` meets its contract. The dates are the origin throughout before the pass.
use mathlib.Core.Path.{refl, sym, ap, ◌∙◌}
use Prim.Native.Nat.{ℕ}
use Rattle.memory.specs.State.{fill_act}
use Rattle.memory.specs.Seen.{state}
use native.Mathlib.Omega.{arith}
use Rattle.dates.specs.KeptLaws.{ready_kept, recorded_kept}
use Rattle.bounds.specs.ReadyLaws.{activities_are}
use Rattle.order.specs.Plan.{plan_in}
use Rattle.topology.specs.FrameLaws.{frame_then}
use Rattle.forward.specs.StoreLaws.{filled_frame, filled_pass}
use Rattle.memory.specs.SeenLaws.{same_then}
use Rattle.forward.proofs.forward_pass.Goals as goal

pub onward-requires-clause-ready : goal.onward-requires-clause-ready
onward-requires-clause-ready c =
    let p = plan_in c.args.plan.now.sheet in
    let frame = filled_frame p _ _ _ _ _ c.fill_act.ensures.0 (c.fill_act-2.ensures.0 ∙ ap (λ (n : ℕ). fill_act (state c.fill_act.new.self) 13 n c.origin_of-origin.result) c.fill_act.ensures.1.activities) in
    record { ready = ready_kept c.requires.ready frame (same_then c.fill_act.ensures.1 c.fill_act-2.ensures.1) (omega arith); recorded = recorded_kept frame p refl refl refl c.requires.recorded }

pub returns : goal.returns
returns c =
    let p = plan_in c.args.plan.now.sheet in
    (c.onward.ensures.0 tt ∙ filled_pass p _ _ _ _ _ c.fill_act.ensures.0 (c.fill_act-2.ensures.0 ∙ ap (λ (n : ℕ). fill_act (state c.fill_act.new.self) 13 n c.origin_of-origin.result) c.fill_act.ensures.1.activities) (c.requires.ready.activities ∙ sym (activities_are c.args.plan.now.sheet.bytes.now c.args.plan.now.sheet.contents)) c.origin_of-origin.ensures.0, frame_then 12 15 0 0 (filled_frame p _ _ _ _ _ c.fill_act.ensures.0 (c.fill_act-2.ensures.0 ∙ ap (λ (n : ℕ). fill_act (state c.fill_act.new.self) 13 n c.origin_of-origin.result) c.fill_act.ensures.1.activities)) c.onward.ensures.1, same_then (same_then c.fill_act.ensures.1 c.fill_act-2.ensures.1) c.onward.ensures.2)
