-- `bounds::start_by_link` meets its contract: the start is that of the link's own bound and kind.
use mathlib.Core.Path.{sym, ap, ap₂, ◌∙◌}
use native.Mathlib.Omega.{arith}
use Rattle.std.specs.Prelude.{ℕ, Err}
use Rattle.project.specs.Records.{relationship_type_of}
use Rattle.placing.proofs.PlacingLaws.{via_at}
use Rattle.project.specs.declared.RelationshipType.{RelationshipType}
use Rattle.memory.specs.Seen.{state}
use Rattle.order.specs.Plan.{plan_in}
use Rattle.order.specs.Ties as ties
use Rattle.passes.specs.Plan.{tie}
use Rattle.passes.specs.Forward.{link_bound, start_for}
use Rattle.dates.specs.Columns.{early_in}
use Rattle.bounds.specs.ReadyLaws.{kept_within}
use Rattle.bounds.proofs.start_by_link.Goals as goal

pub link-requires : goal.link-requires
link-requires g c = (omega (arith, c.requires.0.ready.links, kept_within c.requires.0.ready, c.requires.1), omega arith)

pub returns : goal.returns
returns g c = λ i H.
    let x = c.args in
    let p = plan_in x.plan.now.sheet in
    let d = early_in p (state (g.R.Reads.tables x.tables.now)) in
    let b = c.in_ok-b.b in
    c.start_for.ensures p i H.own_is
    ∙ ap₂ (λ (m : ℕ) (k : RelationshipType). start_for p i m k b) H.left_is
    (c.from-kind.ensures ∙ ap relationship_type_of c.link.ensures.0 ∙ ap (λ (y : ties.Tie). y.kind) (c.requires.0.ready.standing.tied x.k c.requires.1))
    ∙ sym (via_at Err (link_bound p d x.k) (start_for p i (d.left i) (tie p x.k).kind) b (sym c.link_bound.ensures ∙ c.in_ok-b.was))
