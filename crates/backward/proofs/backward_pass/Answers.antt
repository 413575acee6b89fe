-- `backward::backward_pass` meets its contract: all late dates are the end before the first activity is taken.
use mathlib.Core.List.{reverse}
use mathlib.Core.Path.{◌≡◌, refl, sym, ap, ◌∙◌}
use Prim.Native.Nat.{ℕ}
use Rattle.memory.specs.SeenLaws.{same_then}
use Rattle.memory.specs.State.{State, fill_act}
use Rattle.memory.specs.Seen.{state}
use Rattle.memory.specs.Fields.{late_start, late_finish}
use Rattle.topology.specs.Frame.{Frame}
use Rattle.topology.specs.FrameLaws.{frame_then}
use Rattle.order.specs.Plan.{plan_of}
use Rattle.order.specs.Checks.{order}
use Rattle.passes.specs.Dates.{through}
use Rattle.passes.specs.Backward.{backward}
use Rattle.dates.specs.Columns.{late_in}
use Rattle.dates.specs.KeptLaws.{early_kept}
use Rattle.bounds.specs.ReadyLaws.{activities_are}
use Rattle.backward.specs.Stored.{filled}
use Rattle.backward.specs.BackLaws.{filled_late, filled_frame}
use Rattle.backward.proofs.backward_pass.Goals as goal

pub returns : goal.returns
returns c =
    let C = c.args.plan.now.sheet.contents in
    let p = plan_of c.args.plan.now.sheet.bytes.now C in
    let S = state c.args.tables.now in
    let last = c.args.last in
    let T = state c.fill_act-2.new.self in
    let A : c.args.tables.now.activities ≡ C.activities = c.requires.0.ready.activities in
    let E : T ≡ filled S C.activities last = c.fill_act-2.ensures.0 ∙ (λ z. fill_act (c.fill_act.ensures.0 z) late_finish ((c.fill_act.ensures.1.activities ∙ A) z) last) ∙ ap (λ (n : ℕ). fill_act (fill_act S late_start n last) late_finish C.activities last) A in
    let F : Frame 10 12 0 0 S T = rw E (filled_frame p S last C.activities) in
    let b = c.back.ensures in
    let x : late_in p T last ≡ record { ls = λ i. last; lf = λ i. last } =
    ap (λ (W : State). late_in p W last) (E ∙ ap (λ (n : ℕ). filled S n last) (sym (activities_are c.args.plan.now.sheet.bytes.now C))) ∙ filled_late p S last in (
      b.0 tt ∙ (λ z. through (backward p (early_kept F p refl refl refl z) last) (reverse (order p)) (x z)),
      frame_then 10 12 0 0 F b.1,
      same_then (same_then c.fill_act.ensures.1 c.fill_act-2.ensures.1) b.2,
    )
