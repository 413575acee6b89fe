-- `backward::end_of` meets its contract. Each way out has its law.
use mathlib.Core.Path.{sym, ◌∙◌}
use Rattle.late.specs.PlaceLaws.{fits_at, bounded_fits}
use Rattle.backward.specs.FinishLaws.{end_on, end_absent}
use Rattle.project.specs.Records.{project_at}
use Rattle.backward.proofs.end_of.Goals as goal

pub returns-in-Some : goal.returns-in-Some
unfolding project_at
returns-in-Some c = (
  λ d q. c.bounded.ensures ∙ sym (end_on c.args.sheet.now.bytes.now c.args.sheet.now.contents d _ _ _ (sym c.must_finish_by.ensures ∙ c.in-Some.is) c.origin_of-origin.ensures.0 c.midnight.ensures.0),
  λ t e. bounded_fits _ _ t c.origin_of-origin.ensures.1 (sym c.bounded.ensures ∙ e),
)

pub returns-in-None : goal.returns-in-None
unfolding project_at
returns-in-None c =
    (λ d q. sym (end_absent c.args.sheet.now.bytes.now c.args.sheet.now.contents d _ (sym c.must_finish_by.ensures ∙ c.in-None.is) q), fits_at _ c.requires)
