-- `bounds::forward_bound` meets its contract. Each way out has its law.
use borrow.Author.Rules.{rules}
use mathlib.Core.Path.{sym, ◌∙◌}
use mir.Facts.{to_z-of_z}
use mir.Syntax.{w64}
use Rattle.dates.specs.Standing.{as_tie}
use Rattle.order.specs.Plan.{plan_in}
use Rattle.number.specs.Exits.{handed_on}
use Rattle.bounds.specs.BoundLaws.{bound_at, bound_refused}
use Rattle.bounds.proofs.forward_bound.Goals as goal

pub returns : goal.returns
returns c =
    let p = plan_in c.args.plan.now.sheet in
    c.bounded.ensures ∙
    sym
    (bound_at p (as_tie c.args.tie) _ _ _ _ (c.source_of-source.ensures p) (to_z-of_z {w = w64} (record { sfits = search rules })) _ _ _
    c.shifted.ensures c.in_ok-t.was c.origin_of-origin.ensures.0)

pub returns-in_err-t : goal.returns-in_err-t
returns-in_err-t c = rw (handed_on _ _ c.from_residual.ensures.1) (let p = plan_in c.args.plan.now.sheet in
    sym
    (bound_refused p (as_tie c.args.tie) _ _ _ _ (c.source_of-source.ensures p) (to_z-of_z {w = w64} (record { sfits = search rules })) _ _ c.shifted.ensures
    c.in_err-t.was))
