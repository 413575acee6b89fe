-- `floats::held_start` meets its contract. Each way out has its law.
use mathlib.Core.Path.{sym, ◌∙◌}
use Rattle.number.specs.Exits.{handed_on}
use Rattle.floats.specs.SlackLaws.{start_moved_refuses, start_moved_unplaced, start_moved_none, start_moved_far, start_moved_back}
use Rattle.floats.proofs.held_start.Goals as goal

pub returns-then-work-eq0 : goal.returns-then-work-eq0
returns-then-work-eq0 c = sym (start_moved_none _ _ _ _ _ _ _ (sym c.advance.ensures ∙ c.in_ok-t.was) _ (sym c.place_start.ensures ∙ c.in_ok-moved.was) c.if-work-eq0.true)

pub returns : goal.returns
returns c =
    c.retreat.ensures
    ∙ sym (start_moved_back _ _ _ _ _ _ _ (sym c.advance.ensures ∙ c.in_ok-t.was) _ (sym c.place_start.ensures ∙ c.in_ok-moved.was) c.if-work-eq0.false _ (sym c.advance-2.ensures ∙ c.in_ok-f.was))

pub returns-in_err-f : goal.returns-in_err-f
returns-in_err-f c = rw (handed_on _ _ c.from_residual-in_err-f.ensures.1) (sym (start_moved_far _ _ _ _ _ _ _ (sym c.advance.ensures ∙ c.in_ok-t.was) _ (sym c.place_start.ensures ∙ c.in_ok-moved.was) c.if-work-eq0.false _ (sym c.advance-2.ensures ∙ c.in_err-f.was)))

pub returns-in_err-moved : goal.returns-in_err-moved
returns-in_err-moved c = rw (handed_on _ _ c.from_residual-in_err-moved.ensures.1) (sym (start_moved_unplaced _ _ _ _ _ _ _ (sym c.advance.ensures ∙ c.in_ok-t.was) _ (sym c.place_start.ensures ∙ c.in_err-moved.was)))

pub returns-in_err-t : goal.returns-in_err-t
returns-in_err-t c = rw (handed_on _ _ c.from_residual.ensures.1) (sym (start_moved_refuses _ _ _ _ _ _ _ (sym c.advance.ensures ∙ c.in_err-t.was)))
