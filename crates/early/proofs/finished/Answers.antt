-- `early::finished` meets its contract. Each way out has its law.
use mathlib.Core.Path.{sym, ◌∙◌}
use Rattle.dates.specs.Bounds.{bounded_below}
use Rattle.number.specs.Exits.{handed_on}
use Rattle.early.specs.EarlyLaws.{finished_at, finished_far, finished_refused}
use Rattle.early.proofs.finished.Goals as goal

pub returns : goal.returns
returns c = λ p d i T. sym (finished_at p d i _ _ _ c.advance.ensures _ _ c.in_ok-g.was T.origin_is c.bounded.ensures _ c.in_ok-f.was)

pub returns-in_err-f : goal.returns-in_err-f
returns-in_err-f c = rw (handed_on _ _ c.from_residual-in_err-f.ensures.1) (λ p d i T. sym (finished_far p d i _ _ _ c.advance.ensures _ _ c.in_ok-g.was T.origin_is c.bounded.ensures _ c.in_err-f.was))

pub returns-in_err-g : goal.returns-in_err-g
returns-in_err-g c = rw (handed_on _ _ c.from_residual.ensures.1) (λ p d i T. sym (finished_refused p d i _ _ _ c.advance.ensures _ c.in_err-g.was))

pub invariant_of-result : goal.invariant_of-result
invariant_of-result c = record { storable = (c.requires.0, bounded_below _ _ c.args.times.near (sym c.bounded.ensures ∙ c.in_ok-f.was), c.requires.1) }
