-- `forward::ForwardStep.take` meets its contract. Completed work is stored as it happened, any other once it is placed.
use Rattle.std.specs.Prelude.{Ok}
use mathlib.Core.Path.{sym, ap, ◌∙◌}
use Rattle.dates.specs.Bounds.{recorded_below}
use Rattle.dates.specs.Columns.{early_in}
use Rattle.dates.specs.ReadLaws.{not_completed}
use Rattle.memory.specs.Seen.{state}
use Rattle.order.specs.Plan.{plan_in}
use Rattle.number.specs.Exits.{handed_on}
use Rattle.memory.specs.SeenLaws.{same_refl}
use Rattle.forward.specs.StoreLaws.{settled_at, settled_refused, settled_ended, settled_frame, forward_open, completed_ended, completed_frame, in_plan}
use Rattle.forward.proofs.ForwardStep.take.Goals as goal

pub returns-in_ok-placed-in-Unstarted : goal.returns-in_ok-placed-in-Unstarted
returns-in_ok-placed-in-Unstarted c =
    let p = plan_in c.args.plan.now.sheet in
    let S = state c.args.tables.now in
    let d = early_in p S in
    let w = in_plan c.args.plan.now.sheet.bytes.now c.args.plan.now.sheet.contents _ c.requires.1 in
    let e = settled_at c.args.i S _ _ _ c.in_ok-placed-in-Unstarted.was c.store.ensures.0 in
    (λ _. settled_ended p c.args.i _ _ _ _ w e ∙ c.early_of.ensures ∙ forward_open p d c.args.i S _ c.recorded_at-recorded.ensures (c.requires.0.recorded _ w) (not_completed c.in-Unstarted.is), settled_frame _ _ _ _ _ e, c.store.ensures.1)

pub returns-in_err-placed-in-Unstarted : goal.returns-in_err-placed-in-Unstarted
returns-in_err-placed-in-Unstarted c =
    let p = plan_in c.args.plan.now.sheet in
    let S = state c.args.tables.now in
    let d = early_in p S in
    let w = in_plan c.args.plan.now.sheet.bytes.now c.args.plan.now.sheet.contents _ c.requires.1 in
    let e = settled_refused c.args.i S _ _ c.in_err-placed-in-Unstarted.was in
    rw (handed_on _ _ c.from_residual.ensures.1)
    (λ _. settled_ended p c.args.i _ _ _ _ w e ∙ c.early_of.ensures ∙ forward_open p d c.args.i S _ c.recorded_at-recorded.ensures (c.requires.0.recorded _ w) (not_completed c.in-Unstarted.is), settled_frame _ _ _ _ _ e, same_refl _)

pub invariant_of-placed : goal.invariant_of-placed
invariant_of-placed c =
    let p = plan_in c.args.plan.now.sheet in
    let w = in_plan c.args.plan.now.sheet.bytes.now c.args.plan.now.sheet.contents _ c.requires.1 in
    let below = (recorded_below p c.args.i).completed _ _ (sym (c.requires.0.recorded _ w) ∙ ap Ok (sym c.recorded_at-recorded.ensures ∙ c.in-Completed.is)) in
    record { storable = (below.0, below.1, c.act-left.ensures.1) }

pub returns-in-Completed : goal.returns-in-Completed
returns-in-Completed c =
    let p = plan_in c.args.plan.now.sheet in
    let S = state c.args.tables.now in
    let w = in_plan c.args.plan.now.sheet.bytes.now c.args.plan.now.sheet.contents _ c.requires.1 in
    (λ _. completed_ended p S _ c.args.i _ _ _ w c.store-in-Completed.ensures.0 _ c.recorded_at-recorded.ensures (c.requires.0.recorded _ w) c.in-Completed.is c.act-left.ensures.0, completed_frame p S _ c.args.i _ _ _ w c.store-in-Completed.ensures.0, c.store-in-Completed.ensures.1)
