-- `floats::held_move` meets its contract. Each way out has its law.
use mathlib.Core.Path.{sym, ◌∙◌}
use Rattle.number.specs.Exits.{handed_on}
use Rattle.floats.specs.SlackLaws.{dates_moved_refuses, dates_moved_far, dates_moved_to}
use Rattle.floats.proofs.held_move.Goals as goal

pub returns : goal.returns
returns c = sym (dates_moved_to _ _ _ _ _ _ _ (sym c.held_start.ensures ∙ c.in_ok-s.was) _ (sym c.finish_of.ensures ∙ c.in_ok-f.was))

pub returns-in_err-f : goal.returns-in_err-f
returns-in_err-f c = rw (handed_on _ _ c.from_residual-in_err-f.ensures.1) (sym (dates_moved_far _ _ _ _ _ _ _ (sym c.held_start.ensures ∙ c.in_ok-s.was) _ (sym c.finish_of.ensures ∙ c.in_err-f.was)))

pub returns-in_err-s : goal.returns-in_err-s
returns-in_err-s c = rw (handed_on _ _ c.from_residual.ensures.1) (sym (dates_moved_refuses _ _ _ _ _ _ _ (sym c.held_start.ensures ∙ c.in_err-s.was)))
