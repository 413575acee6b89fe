-- `rollup::roll_depth` meets its contract: the next summary of the depth is k.
use mathlib.Core.Path.{◌≡◌, refl, sym, ap, subst, ◌∙◌}
use mathlib.Core.List.{List}
use Prim.Native.Nat.{ℕ, suc, ◌+◌, ◌-◌}
use native.Mathlib.Omega.{arith}
use Rattle.cells.specs.Chain.{Stands}
use Rattle.memory.specs.Seen.{state}
use Rattle.memory.specs.SeenLaws.{same_refl, same_then}
use Rattle.memory.specs.Fields.{depth_of, next_deep}
use Rattle.topology.specs.FrameLaws.{frame_refl, frame_then}
use Rattle.order.specs.Plan.{plan_of, plan_in}
use Rattle.passes.specs.Dates.{through}
use Rattle.results.specs.Results.{rolled}
use Rattle.results.specs.View.{shown_in}
use Rattle.number.specs.Exits.{handed_on}
use Rattle.rollup.specs.RollingLaws.{rolls_start, rolls_turn, rolls_stop, rolls_end, depth_is}
use Rattle.rollup.proofs.roll_depth.Goals as goal

pub loop-k-init : goal.loop-k-init
unfolding plan_of
loop-k-init c =
    let x = c.args in
    let h = c.requires in
    let p = plan_in x.plan.now.sheet in
    let S₀ = state x.tables.now in
    let n : suc (x.d - 1) ≡ x.d = omega (arith, h.2) in
    let T = h.1.deep.heads (x.d - 1) (omega (arith, h.2, h.3)) in
    let U = subst (Stands (S₀.act depth_of) x.plan.now.sheet.contents.activities (suc (x.d - 1)) 0) (sym c.act-k.ensures.0) T in
    (same_refl _, rolls_start p S₀ x.d _ (frame_refl 20 30 0 0 S₀) (subst (λ (i : ℕ). Stands (S₀.act depth_of) x.plan.now.sheet.contents.activities i 0 c.act-k.result) n U))

pub returns-in_err-roll_one : goal.returns-in_err-roll_one
unfolding plan_of
returns-in_err-roll_one c = rw (handed_on _ _ c.from_residual.ensures.1) (let x = c.args in
    let h = c.requires in
    let p = plan_in x.plan.now.sheet in
    let S₀ = state x.tables.now in
    let L = c.loop-k in
    let W = L.invariant.1 in
    let e = c.roll_one.ensures in
    let T = state c.roll_one.new.tables in (
      (λ q. rolls_stop p S₀ x.d (state L.tables) T L.k W (omega (arith, c.loop-k-test.true)) _ e.0 _ (shown_in p T) c.in_err-roll_one.was q
          ∙ ap (λ (ks : List ℕ). through (rolled p q) ks (shown_in p S₀)) (depth_is p S₀ h.1 x.d h.2 q)),
      frame_then 20 30 0 0 W.frame e.1,
      same_then L.invariant.0 e.2,
    ))

-- what is rolled up leaves the chain, so the next stands where the definition says
next-stands : (c : goal.After-act-k-in-loop-k) → Stands ((state c.args.tables.now).act depth_of) c.args.plan.now.sheet.contents.activities ((state c.args.tables.now).act depth_of c.loop-k.k) (c.loop-k.k + 1) c.act-k-in-loop-k.result
unfolding plan_of
next-stands c =
    let x = c.args in
    let S₀ = state x.tables.now in
    let L = c.loop-k in
    let F = frame_then 20 30 0 0 L.invariant.1.frame c.roll_one.ensures.1 in
    let m = c.act-k-in-loop-k.ensures.0 ∙ ap (λ (f : ℕ → ℕ). f L.k) (F.acts next_deep refl) in
    subst (Stands (S₀.act depth_of) x.plan.now.sheet.contents.activities (S₀.act depth_of L.k) (L.k + 1)) (sym m) (c.requires.1.deep.nexts L.k (omega arith) (omega (arith, c.loop-k-test.true)) (omega (arith, L.invariant.1.hits (omega (arith, c.loop-k-test.true)), c.requires.2)))

pub loop-k-smaller : goal.loop-k-smaller
loop-k-smaller c = omega (arith, (next-stands c).low, c.loop-k-test.true)

pub loop-k-preserved : goal.loop-k-preserved
unfolding plan_of
loop-k-preserved c =
    let x = c.args in
    let L = c.loop-k in
    let W = L.invariant.1 in
    let e = c.roll_one.ensures in
    let T = state c.roll_one.new.tables in
    (same_then L.invariant.0 e.2, rolls_turn (plan_in x.plan.now.sheet) (state x.tables.now) x.d (state L.tables) T L.k W (omega (arith, c.loop-k-test.true)) _ e.0 _ T refl c.in_ok-roll_one.was (frame_then 20 30 0 0 W.frame e.1) (next-stands c))

pub returns : goal.returns
unfolding plan_of
returns c =
    let x = c.args in
    let h = c.requires in
    let p = plan_in x.plan.now.sheet in
    let S₀ = state x.tables.now in
    let L = c.loop-k in (
      (λ q. rolls_end p S₀ x.d (state L.tables) L.k L.invariant.1 (omega (arith, c.loop-k-test.false)) q ∙ ap (λ (ks : List ℕ). through (rolled p q) ks (shown_in p S₀)) (depth_is p S₀ h.1 x.d h.2 q)),
      L.invariant.1.frame,
      L.invariant.0,
    )
