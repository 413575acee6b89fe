-- `remaining::remaining` meets its contract: the first i activities are done.
use mathlib.Core.Path.{◌≡◌}
use native.Mathlib.Omega.{arith}
use Rattle.memory.specs.Seen.{state}
use Rattle.memory.specs.SeenLaws.{same_refl, same_then}
use Rattle.topology.specs.FrameLaws.{frame_refl, frame_then}
use Rattle.order.specs.Plan.{plan_of, plan_in}
use Rattle.placing.proofs.PlacingSound.{clash}
use Rattle.number.specs.Exits.{handed_on}
use Rattle.remaining.specs.RowLaws.{passed_start, passed_turn, passed_stop, passed_end}
use Rattle.remaining.proofs.remaining.Goals as goal

pub loop-i-init : goal.loop-i-init
loop-i-init c =
    let x = c.args in
    let S = state x.tables.now in
    (same_refl _, frame_refl 14 20 0 0 S, passed_start (plan_in x.plan.now.sheet) S)

pub returns-in_err-record_one : goal.returns-in_err-record_one
unfolding plan_of
returns-in_err-record_one c = rw (handed_on _ _ c.from_residual.ensures.1) (let e = c.record_one.ensures in
    let L = c.loop-i in
    let x = c.args in
    let p = plan_in x.plan.now.sheet in (
      passed_stop p L.i _ _ L.invariant.2 _ e.0 _ c.in_err-record_one.was (omega arith),
      λ d. clash (cc),
      frame_then 14 20 0 0 L.invariant.1 e.0.frame,
      same_then L.invariant.0 e.1,
    ))

pub loop-i-preserved : goal.loop-i-preserved
loop-i-preserved c =
    let e = c.record_one.ensures in
    let L = c.loop-i in
    let x = c.args in
    let p = plan_in x.plan.now.sheet in (
      same_then L.invariant.0 e.1,
      frame_then 14 20 0 0 L.invariant.1 e.0.frame,
      passed_turn p L.i _ _ L.invariant.2 _ e.0 c.in_ok-record_one.was,
    )

pub returns : goal.returns
unfolding plan_of
returns c =
    let L = c.loop-i in
    let x = c.args in
    let p = plan_in x.plan.now.sheet in
    let d : L.i ≡ x.plan.now.sheet.contents.activities = omega arith in
    let e = passed_end p L.i (state L.tables) d L.invariant.2 in
    (e.0, λ q. e.1, L.invariant.1, L.invariant.0)
