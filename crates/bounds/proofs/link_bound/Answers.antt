-- `bounds::link_bound` meets its contract. The link is the plan's, and its predecessor's dates and recorded work are read from the memory.
use Rattle.std.specs.Prelude.{◌≡◌}
use Rattle.order.specs.Plan.{plan_in}
use native.Mathlib.Omega.{arith}
use Rattle.bounds.specs.LinkLaws.{from_in, link_bound_from}
use Rattle.bounds.specs.ReadyLaws.{activities_are, kept_within}
use Rattle.bounds.proofs.link_bound.Goals as goal

pub tie_at-tie-requires : goal.tie_at-tie-requires
tie_at-tie-requires g c = omega (arith, c.requires.0.ready.links, kept_within c.requires.0.ready, c.requires.1)

pub counted_from-from-requires : goal.counted_from-from-requires
counted_from-from-requires g c = omega (arith, c.requires.0.ready.activities, from_in c.requires.0.ready _ c.requires.1 _ c.tie_at-tie.ensures)

pub returns : goal.returns
returns g c =
    let x = c.args in
    let L = c.requires.0 in
    let a : (plan_in x.plan.now.sheet).activities ≡ (g.R.Reads.tables x.tables.now).activities =
    omega (arith, L.ready.activities, activities_are x.plan.now.sheet.bytes.now x.plan.now.sheet.contents) in
    link_bound_from L.ready _ c.requires.1 _ c.tie_at-tie.ensures L.recorded _ _ _ (c.counted_from-from.ensures.0 _ a L.recorded) c.counted_from-from.ensures.1 c.forward_bound.ensures
