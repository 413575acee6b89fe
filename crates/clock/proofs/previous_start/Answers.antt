-- `clock::previous_start` meets its contract. Each way out cites its law.
use mathlib.Core.Path.{sym, ◌∙◌}
use Rattle.worktime.proofs.Answers.{previous_start_next}
use Rattle.number.specs.Exits.{handed_on}
use Rattle.clock.specs.Ways.{previous_start_here, previous_start_refuses}
use Rattle.clock.proofs.previous_start.Goals as goal

pub returns-then-worked : goal.returns-then-worked
returns-then-worked c = previous_start_here _ _ _ c.working_at.ensures _ c.in_ok-worked.was c.if-worked.true

pub returns : goal.returns
returns c = c.next_start.ensures ∙ sym (previous_start_next _ _)

pub returns-in_err-worked : goal.returns-in_err-worked
returns-in_err-worked c = rw (handed_on _ _ c.from_residual.ensures.1) (previous_start_refuses _ _ _ c.working_at.ensures _ c.in_err-worked.was)
