-- `rollup::results` meets its contract.
use native.Mathlib.Omega.{arith}
use Rattle.memory.specs.Seen.{state}
use Rattle.memory.specs.SeenLaws.{same_then}
use Rattle.topology.specs.FrameLaws.{frame_then, frame_wider}
use Rattle.order.specs.Plan.{plan_of, plan_in}
use Rattle.results.specs.View.{ran_in, shown_in}
use Rattle.results.proofs.RowLaws.{to_show, to_show_kept}
use Rattle.number.specs.Exits.{handed_on}
use Rattle.rollup.specs.PreparedLaws.{to_roll, to_roll_kept, results_stop, results_on}
use Rattle.rollup.proofs.results.Goals as goal

pub show_all-requires : goal.show_all-requires
unfolding plan_of
show_all-requires c =
    let x = c.args in
    let h = c.requires in
    let p = plan_in x.plan.now.sheet in
    let S₀ = state x.tables.now in to_show h.0 h.2 h.1

pub returns-in_err-show_all : goal.returns-in_err-show_all
unfolding plan_of
returns-in_err-show_all c = rw (handed_on _ _ c.from_residual.ensures.1) (let x = c.args in
    let h = c.requires in
    let p = plan_in x.plan.now.sheet in
    let S₀ = state x.tables.now in
    let e = c.show_all.ensures in
    let T = state c.show_all.new.tables in
    ((λ f other. results_stop p (ran_in p S₀ f other) (shown_in p T) (shown_in p T) _ _ (e.0 f other) c.in_err-show_all.was), (frame_wider 20 35 0 0 20 30 0 0 (omega arith) (omega arith) (omega arith) (omega arith) e.1), e.2))

pub roll_up-requires : goal.roll_up-requires
unfolding plan_of
roll_up-requires c =
    let x = c.args in
    let h = c.requires in
    let p = plan_in x.plan.now.sheet in
    let S₀ = state x.tables.now in
    let e = c.show_all.ensures in
    (to_show_kept (omega arith) e.1 e.2 (to_show h.0 h.2 h.1), to_roll_kept p (omega arith) e.1 (to_roll h.0))

pub returns : goal.returns
unfolding plan_of
returns c =
    let x = c.args in
    let h = c.requires in
    let p = plan_in x.plan.now.sheet in
    let S₀ = state x.tables.now in
    let e = c.show_all.ensures in
    let d = c.roll_up.ensures in
    let T = state c.show_all.new.tables in
    let U = state c.roll_up.new.tables in (
      (λ f other. results_on p (ran_in p S₀ f other) (shown_in p T) (shown_in p U) _ c.roll_up.result (e.0 f other) c.in_ok-show_all.was (d.0 (ran_in p S₀ f other))),
      frame_then 20 35 0 0 (frame_wider 20 35 0 0 20 30 0 0 (omega arith) (omega arith) (omega arith) (omega arith) e.1) d.1,
      same_then e.2 d.2,
    )
