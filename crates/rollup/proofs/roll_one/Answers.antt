-- `rollup::roll_one` meets its contract.
use mathlib.Core.Path.{sym, ap, subst, ◌∙◌}
use Prim.Native.Nat.{ℕ, ◌<◌}
use native.Mathlib.Omega.{arith}
use Rattle.memory.specs.Seen.{state}
use Rattle.memory.specs.SeenLaws.{same_refl}
use Rattle.memory.specs.Fields.{parent, first_child}
use Rattle.topology.specs.Frame.{Frame}
use Rattle.topology.specs.FrameLaws.{frame_refl}
use Rattle.order.specs.Plan.{plan_of, plan_in}
use Rattle.results.specs.View.{shown_in}
use Rattle.results.proofs.RowLaws.{shown_frame}
use Rattle.number.specs.Exits.{handed_on}
use Rattle.rollup.specs.Chained.{LinkedIn}
use Rattle.rollup.specs.Roll.{child_sum}
use Rattle.rollup.specs.RollingLaws.{one_none, one_done, one_refused}
use Rattle.rollup.proofs.roll_one.Goals as goal

pub returns-then-first-plan : goal.returns-then-first-plan
unfolding plan_of
returns-then-first-plan c =
    let x = c.args in
    let h = c.requires in
    let p = plan_in x.plan.now.sheet in
    let S = state x.tables.now in
    ((λ q. one_none p S h.1 x.s h.2 (omega (arith, c.act-first.ensures.0, c.if-first-plan.true)) q), frame_refl 20 30 0 0 S, same_refl _)

pub sum_children-x-requires : goal.sum_children-x-requires
unfolding plan_of
sum_children-x-requires c =
    let x = c.args in
    let h = c.requires in
    let p = plan_in x.plan.now.sheet in
    let S = state x.tables.now in (
      omega (arith, h.0.activities, h.2),
      subst (λ (n : ℕ). LinkedIn parent first_child n 0 S) (sym h.0.activities) h.1.children,
      c.act-first.ensures.0,
      omega (arith, h.0.activities, c.if-first-plan.false),
    )

pub returns : goal.returns
unfolding plan_of
returns c =
    let x = c.args in
    let h = c.requires in
    let p = plan_in x.plan.now.sheet in
    let S = state x.tables.now in
    let l : S.act first_child x.s < x.plan.now.sheet.contents.activities = omega (arith, c.act-first.ensures.0, c.if-first-plan.false) in
    let y = c.in_ok-y.y in
    let e = c.put_shown.ensures in (
      (λ q. one_done p S h.1 x.s h.2 l _ _ (c.sum_children-x.ensures ∙ ap (λ (n : ℕ). child_sum S n x.s) h.0.activities) c.summed_of.ensures y _ c.in_ok-y.was e.0 q),
      subst (Frame 20 30 0 0 S) (sym e.0) (shown_frame S x.s y.shown),
      e.1,
    )

pub returns-in_err-y : goal.returns-in_err-y
unfolding plan_of
returns-in_err-y c = rw (handed_on _ _ c.from_residual.ensures.1) (let x = c.args in
    let h = c.requires in
    let p = plan_in x.plan.now.sheet in
    let S = state x.tables.now in
    let l : S.act first_child x.s < x.plan.now.sheet.contents.activities = omega (arith, c.act-first.ensures.0, c.if-first-plan.false) in (
      (λ q. one_refused p S h.1 x.s h.2 l _ _ (c.sum_children-x.ensures ∙ ap (λ (n : ℕ). child_sum S n x.s) h.0.activities) c.summed_of.ensures _ (shown_in p S) c.in_err-y.was q),
      frame_refl 20 30 0 0 S,
      same_refl _,
    ))
