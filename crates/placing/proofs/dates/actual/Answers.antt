-- `placing::dates::actual` meets its contract, by which days are recorded.
use mathlib.Core.Path.{sym, ap₂, ◌∙◌}
use Rattle.placing.specs.Placing.{actual}
use Rattle.placing.proofs.PlacingLaws.{actual_none, actual_finish_only}
use Rattle.placing.proofs.dates.actual.Goals as goal

pub returns-in-None-Some : goal.returns-in-None-Some
returns-in-None-Some c = c.completed-in-None-Some.ensures ∙ sym (ap₂ (actual _) c.in-None-Some.is-0 c.in-None-Some.is-1 ∙ actual_finish_only _ _)

pub returns-in-None-None : goal.returns-in-None-None
returns-in-None-None c = sym (ap₂ (actual _) c.in-None-None.is-0 c.in-None-None.is-1 ∙ actual_none _)
