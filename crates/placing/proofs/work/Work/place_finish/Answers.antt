-- `placing::Work::place_finish` meets its contract. Each way out has its law.
use mathlib.Core.Path.{sym, ◌∙◌}
use Rattle.number.specs.Exits.{handed_on}
use Rattle.placing.proofs.PlacingLaws.{place_finish_refuses, place_finish_here, place_finish_start, place_finish_before, place_finish_start_refuses}
use Rattle.placing.proofs.work.Work.place_finish.Goals as goal

pub returns-then-s-t : goal.returns-then-s-t
returns-then-s-t c =
    sym
    (place_finish_start _ _ _ _ _ _ (sym c.previous_finish.ensures ∙ c.in_ok-f.was) (sym c.is_moment.ensures ∙ c.if-is_moment.true)
    (sym c.next_start.ensures ∙ c.in_ok-s.was) c.if-s-t.true)

pub returns-else-s-t : goal.returns-else-s-t
returns-else-s-t c =
    sym
    (place_finish_before _ _ _ _ _ _ (sym c.previous_finish.ensures ∙ c.in_ok-f.was) (sym c.is_moment.ensures ∙ c.if-is_moment.true)
    (sym c.next_start.ensures ∙ c.in_ok-s.was) c.if-s-t.false)

pub returns-in_err-s : goal.returns-in_err-s
returns-in_err-s c = rw (handed_on _ _ c.from_residual-in_err-s.ensures.1) (sym
    (place_finish_start_refuses _ _ _ _ _ _ (sym c.previous_finish.ensures ∙ c.in_ok-f.was) (sym c.is_moment.ensures ∙ c.if-is_moment.true)
    (sym c.next_start.ensures ∙ c.in_err-s.was)))

pub returns-else-is_moment : goal.returns-else-is_moment
returns-else-is_moment c = sym (place_finish_here _ _ _ _ _ (sym c.previous_finish.ensures ∙ c.in_ok-f.was) (sym c.is_moment.ensures ∙ c.if-is_moment.false))

pub returns-in_err-f : goal.returns-in_err-f
returns-in_err-f c = rw (handed_on _ _ c.from_residual.ensures.1) (sym (place_finish_refuses _ _ _ _ _ (sym c.previous_finish.ensures ∙ c.in_err-f.was)))
