-- `placing::dates::completed` meets its contract. Each way out has its law.
use mathlib.Core.Path.{sym, ap, ◌∙◌}
use Rattle.number.specs.Exits.{handed_on}
use Rattle.worktime.specs.Walks.{next_start}
use Rattle.placing.proofs.PlacingLaws.{actual_start_refuses, actual_finish_refuses, actual_both}
use Rattle.placing.proofs.dates.completed.Goals as goal

pub returns : goal.returns
returns c =
    rw (c.max.ensures)
    (sym
    (actual_both _ _ _ _ _ (ap (next_start _) (sym c.midnight.ensures.0) ∙ sym c.next_start.ensures ∙ c.in_ok-s.was)
    (sym c.finish_by_day.ensures ∙ c.in_ok-f.was)))

pub returns-in_err-f : goal.returns-in_err-f
returns-in_err-f c =
    rw (handed_on _ _ c.from_residual-in_err-f.ensures.1)
    (sym
    (actual_finish_refuses _ _ _ _ _ (ap (next_start _) (sym c.midnight.ensures.0) ∙ sym c.next_start.ensures ∙ c.in_ok-s.was)
    (sym c.finish_by_day.ensures ∙ c.in_err-f.was)))

pub returns-in_err-s : goal.returns-in_err-s
returns-in_err-s c =
    rw (handed_on _ _ c.from_residual.ensures.1) (sym (actual_start_refuses _ _ _ _ (ap (next_start _) (sym c.midnight.ensures.0) ∙ sym c.next_start.ensures ∙ c.in_err-s.was)))
