-- `placing::Work::finish_for_start` meets its contract. Each way out has its law.
use mathlib.Core.Path.{sym, ◌∙◌}
use Rattle.number.specs.Exits.{handed_on}
use Rattle.placing.proofs.PlacingLaws.{finish_for_start_none, finish_for_start_at, finish_for_start_refuses}
use Rattle.placing.proofs.work.Work.finish_for_start.Goals as goal

pub returns-then-self-eq0 : goal.returns-then-self-eq0
returns-then-self-eq0 c = sym (finish_for_start_none _ _ _ c.if-self-eq0.true)

pub returns : goal.returns
returns c = c.advance.ensures ∙ sym (finish_for_start_at _ _ _ c.if-self-eq0.false _ (sym c.previous_start.ensures ∙ c.in_ok-s.was))

pub returns-in_err-s : goal.returns-in_err-s
returns-in_err-s c = rw (handed_on _ _ c.from_residual.ensures.1) (sym (finish_for_start_refuses _ _ _ c.if-self-eq0.false _ (sym c.previous_start.ensures ∙ c.in_err-s.was)))
