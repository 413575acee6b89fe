-- `placing::dates::constraint_time` meets its contract, by the end that the constraint bounds.
use Rattle.std.specs.Prelude.{Some}
use mathlib.Core.Path.{sym, ap, ◌∙◌}
use Rattle.placing.proofs.PlacingLaws.{constraint_time_start, constraint_time_finish, constraint_time_neither}
use Rattle.placing.proofs.dates.constraint_time.Goals as goal

pub returns-in-Start : goal.returns-in-Start
returns-in-Start c =
    c.moment_of.ensures ∙ sym (constraint_time_start _ _ _ _ (sym c.on_start.ensures ∙ c.in-Some.is ∙ ap Some c.in-Start.is) c.start_of_day.ensures)

pub returns-in-Finish : goal.returns-in-Finish
returns-in-Finish c =
    c.moment_of-in-Finish.ensures ∙ sym (constraint_time_finish _ _ _ _ (sym c.on_start.ensures ∙ c.in-Some.is ∙ ap Some c.in-Finish.is) c.finish_by_day.ensures)

pub returns-in_default : goal.returns-in_default
returns-in_default c = sym (constraint_time_neither _ _ (sym c.on_start.ensures ∙ c.in_default.is))
