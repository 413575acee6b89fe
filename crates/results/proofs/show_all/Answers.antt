-- `results::show_all` meets its contract.
use native.Mathlib.Omega.{arith}
use Rattle.memory.specs.Seen.{state}
use Rattle.memory.specs.SeenLaws.{same_refl, same_then}
use Rattle.topology.specs.FrameLaws.{frame_then}
use Rattle.order.specs.Plan.{plan_of, plan_in}
use Rattle.number.specs.Exits.{handed_on}
use Rattle.results.specs.View.{shown_to}
use Rattle.results.proofs.RowLaws.{to_show_kept, shows_start, shows_turn, shows_stop, shows_end}
use Rattle.results.proofs.show_all.Goals as goal

pub loop-i-init : goal.loop-i-init
unfolding plan_of
loop-i-init c =
    let x = c.args in
    let p = plan_in x.plan.now.sheet in
    (same_refl _, c.project-project.ensures, shows_start p (state x.tables.now))

pub show_one-requires : goal.show_one-requires
show_one-requires c =
    let L = c.loop-i in
    (to_show_kept (omega arith) L.invariant.2.frame L.invariant.0 c.requires, omega arith, L.invariant.1)

pub returns-in_err-show_one : goal.returns-in_err-show_one
unfolding plan_of
returns-in_err-show_one c = rw (handed_on _ _ c.from_residual.ensures.1) (let x = c.args in
    let p = plan_in x.plan.now.sheet in
    let L = c.loop-i in
    let e = c.show_one.ensures in
    let T = state c.show_one.new.tables in (
      (λ f other. shows_stop p (state x.tables.now) (state L.tables) T L.i L.invariant.2 (omega arith) _ e.0 _ c.in_err-show_one.was (shown_to p.activities T) f other),
      frame_then 20 30 0 0 L.invariant.2.frame e.1,
      same_then L.invariant.0 e.2,
    ))

pub loop-i-preserved : goal.loop-i-preserved
unfolding plan_of
loop-i-preserved c =
    let x = c.args in
    let p = plan_in x.plan.now.sheet in
    let L = c.loop-i in
    let e = c.show_one.ensures in
    (same_then L.invariant.0 e.2, L.invariant.1, shows_turn p (state x.tables.now) (state L.tables) _ L.i L.invariant.2 (omega arith) _ e.0 e.1 c.in_ok-show_one.was)

pub returns : goal.returns
unfolding plan_of
returns c =
    let x = c.args in
    let p = plan_in x.plan.now.sheet in
    let L = c.loop-i in
    ((λ f other. shows_end p (state x.tables.now) (state L.tables) L.i L.invariant.2 (omega arith) f other), L.invariant.2.frame, L.invariant.0)
