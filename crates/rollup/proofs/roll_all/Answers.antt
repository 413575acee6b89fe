-- `rollup::roll_all` meets its contract: the depths from `d` up to the top are left.
use mathlib.Core.Path.{◌≡◌, refl, subst}
use Prim.Native.Nat.{◌+◌, ◌-◌}
use native.Mathlib.Omega.{arith}
use Rattle.memory.specs.Seen.{state}
use Rattle.memory.specs.SeenLaws.{same_refl, same_then}
use Rattle.topology.specs.FrameLaws.{frame_refl, frame_then}
use Rattle.order.specs.Plan.{plan_of, plan_in}
use Rattle.results.specs.View.{shown_in}
use Rattle.number.specs.Exits.{handed_on}
use Rattle.rollup.specs.RollingLaws.{Rising, rising_turn, rising_stop, rising_end}
use Rattle.rollup.proofs.roll_all.Goals as goal

pub loop-d-init : goal.loop-d-init
unfolding plan_of
loop-d-init c =
    let x = c.args in
    (same_refl _, record { frame = frame_refl 20 30 0 0 (state x.tables.now); left = λ q. refl })

pub returns-in_err-roll_depth : goal.returns-in_err-roll_depth
unfolding plan_of
returns-in_err-roll_depth c = rw (handed_on _ _ c.from_residual.ensures.1) (let x = c.args in
    let p = plan_in x.plan.now.sheet in
    let S₀ = state x.tables.now in
    let L = c.loop-d in
    let e = c.roll_depth.ensures in
    let T = state c.roll_depth.new.tables in
    let n : L.d ≡ (L.d - 1) + 1 = omega arith in
    let W = subst (Rising p S₀ (state L.tables)) n L.invariant.1 in
    ((λ q. rising_stop p S₀ (state L.tables) T (L.d - 1) W _ e.0 _ (shown_in p T) c.in_err-roll_depth.was q), frame_then 20 30 0 0 W.frame e.1, same_then L.invariant.0 e.2))

pub loop-d-preserved : goal.loop-d-preserved
unfolding plan_of
loop-d-preserved c =
    let x = c.args in
    let p = plan_in x.plan.now.sheet in
    let S₀ = state x.tables.now in
    let L = c.loop-d in
    let e = c.roll_depth.ensures in
    let n : L.d ≡ (L.d - 1) + 1 = omega arith in
    let W = subst (Rising p S₀ (state L.tables)) n L.invariant.1 in
    (same_then L.invariant.0 e.2, rising_turn p S₀ (state L.tables) (state c.roll_depth.new.tables) (L.d - 1) W _ e.0 c.in_ok-roll_depth.was (frame_then 20 30 0 0 W.frame e.1))

pub returns : goal.returns
unfolding plan_of
returns c =
    let x = c.args in
    let p = plan_in x.plan.now.sheet in
    let S₀ = state x.tables.now in
    let L = c.loop-d in
    let n : L.d ≡ 0 = omega arith in
    let W = subst (Rising p S₀ (state L.tables)) n L.invariant.1 in
    (rising_end p S₀ (state L.tables) W, W.frame, L.invariant.0)
