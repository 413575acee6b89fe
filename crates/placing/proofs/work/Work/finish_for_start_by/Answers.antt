-- `placing::Work::finish_for_start_by` meets its contract. Each way out has its law.
use mathlib.Core.Path.{sym, ◌∙◌}
use Rattle.number.specs.Exits.{handed_on}
use Rattle.placing.proofs.PlacingLaws.{finish_for_start_by_none, finish_for_start_by_at, finish_for_start_by_refuses}
use Rattle.placing.proofs.work.Work.finish_for_start_by.Goals as goal

pub returns-then-self-eq0 : goal.returns-then-self-eq0
returns-then-self-eq0 c = sym (finish_for_start_by_none _ _ _ c.if-self-eq0.true)

pub returns : goal.returns
returns c = c.advance.ensures ∙ sym (finish_for_start_by_at _ _ _ c.if-self-eq0.false _ (sym c.start_by.ensures ∙ c.in_ok-s.was))

pub returns-in_err-s : goal.returns-in_err-s
returns-in_err-s c = rw (handed_on _ _ c.from_residual.ensures.1) (sym (finish_for_start_by_refuses _ _ _ c.if-self-eq0.false _ (sym c.start_by.ensures ∙ c.in_err-s.was)))
