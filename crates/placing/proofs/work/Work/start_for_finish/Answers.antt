-- `placing::Work::start_for_finish` meets its contract. Each way out has its law.
use mathlib.Core.Path.{sym, ◌∙◌}
use Rattle.number.specs.Exits.{handed_on}
use Rattle.placing.proofs.PlacingLaws.{start_for_finish_none, start_for_finish_at, start_for_finish_refuses}
use Rattle.placing.proofs.work.Work.start_for_finish.Goals as goal

pub returns-then-self-eq0 : goal.returns-then-self-eq0
returns-then-self-eq0 c = sym (start_for_finish_none _ _ _ c.if-self-eq0.true)

pub returns : goal.returns
returns c = c.retreat.ensures ∙ sym (start_for_finish_at _ _ _ c.if-self-eq0.false _ (sym c.next_finish.ensures ∙ c.in_ok-f.was))

pub returns-in_err-f : goal.returns-in_err-f
returns-in_err-f c = rw (handed_on _ _ c.from_residual.ensures.1) (sym (start_for_finish_refuses _ _ _ c.if-self-eq0.false _ (sym c.next_finish.ensures ∙ c.in_err-f.was)))
