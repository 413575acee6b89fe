-- `floats::gap_at` meets its contract. Each way out has its law.
use mathlib.Core.Path.{◌∙◌}
use native.Mathlib.Omega.{arith}
use Rattle.clock.specs.On.{worked_by}
use Rattle.order.specs.Plan.{plan_in}
use Rattle.bounds.specs.ReadyLaws.{kept_within}
use Rattle.bounds.specs.LinkLaws.{to_in}
use Rattle.number.specs.Exits.{handed_on}
use Rattle.floats.specs.GapLaws.{gap_refused, gap_between}
use Rattle.floats.proofs.gap_at.Goals as goal

pub tie_at-tie-requires : goal.tie_at-tie-requires
tie_at-tie-requires c = let q = c.requires in omega (arith, q.0.links, kept_within q.0, q.1)

pub act-target-requires : goal.act-target-requires
act-target-requires c =
    let q = c.requires in (omega (arith, q.0.activities, to_in q.0 _ q.1 _ c.tie_at-tie.ensures), c.target_field.ensures.1)

pub returns : goal.returns
returns c =
    let x = c.args in
    let w = worked_by x.calendar.now in
    c.between.ensures
    ∙ gap_between c.requires.0 x.k c.requires.1 _ c.tie_at-tie.ensures w x.from.start x.from.finish _ c.forward_bound.ensures _ _ _ c.in_ok-b.was
    (c.target_field.ensures.0 (plan_in x.plan.now.sheet)) c.act-target.ensures.0

pub returns-in_err-b : goal.returns-in_err-b
returns-in_err-b c = rw (handed_on _ _ c.from_residual.ensures.1) (let x = c.args in
    let w = worked_by x.calendar.now in
    gap_refused c.requires.0 x.k c.requires.1 _ c.tie_at-tie.ensures w x.from.start x.from.finish _ c.forward_bound.ensures _ c.in_err-b.was)
