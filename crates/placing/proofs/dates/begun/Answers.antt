-- `placing::dates::begun` meets its contract. Each way out has its law.
use mathlib.Core.Path.{sym, ap, ◌∙◌}
use Rattle.number.specs.Exits.{handed_on}
use Rattle.worktime.specs.Walks.{next_start}
use Rattle.placing.proofs.PlacingLaws.{actual_begun, actual_begun_refuses}
use Rattle.placing.proofs.dates.begun.Goals as goal

pub returns : goal.returns
returns c = sym (actual_begun _ _ _ (ap (next_start _) (sym c.midnight.ensures.0) ∙ sym c.next_start.ensures ∙ c.in_ok-s.was))

pub returns-in_err-s : goal.returns-in_err-s
returns-in_err-s c =
    rw (handed_on _ _ c.from_residual.ensures.1) (sym (actual_begun_refuses _ _ _ (ap (next_start _) (sym c.midnight.ensures.0) ∙ sym c.next_start.ensures ∙ c.in_err-s.was)))
