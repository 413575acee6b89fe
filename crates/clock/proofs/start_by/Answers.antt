-- `clock::start_by` meets its contract. Each way out cites its law; the finish found lies above 0.
use mathlib.Core.Path.{sym, ap, ◌∙◌}
use native.Mathlib.Omega.{arith}
use Rattle.worktime.specs.Walks.{minute_before}
use Rattle.worktime.proofs.Answers.{previous_finish_sound}
use Rattle.number.specs.Exits.{handed_on}
use Rattle.clock.specs.Ways.{start_by_here, start_by_finish, start_by_refuses}
use Rattle.clock.proofs.start_by.Goals as goal

pub returns-then-worked : goal.returns-then-worked
returns-then-worked c = start_by_here _ _ _ c.working_at.ensures _ c.in_ok-worked.was c.if-worked.true

pub overflow_sub-result : goal.overflow_sub-result
overflow_sub-result c = let f = previous_finish_sound _ (sym c.previous_finish.ensures ∙ c.in_ok-f.was) in omega (arith, f.1)

pub returns : goal.returns
returns c =
    sym (ap minute_before c.in_ok-f.was)
    ∙ start_by_finish _ _ _ c.working_at.ensures _ c.in_ok-worked.was
    c.if-worked.false _ c.previous_finish.ensures

pub returns-in_err-f : goal.returns-in_err-f
returns-in_err-f c = rw (handed_on _ _ c.from_residual-in_err-f.ensures.1) (sym (ap minute_before c.in_err-f.was)
    ∙ start_by_finish _ _ _ c.working_at.ensures _ c.in_ok-worked.was
    c.if-worked.false _ c.previous_finish.ensures)

pub returns-in_err-worked : goal.returns-in_err-worked
returns-in_err-worked c = rw (handed_on _ _ c.from_residual.ensures.1) (start_by_refuses _ _ _ c.working_at.ensures _ c.in_err-worked.was)
