-- `early::held` meets its contract. Each way out has its law.
use mathlib.Core.Path.{sym, ◌∙◌}
use Rattle.number.specs.Exits.{handed_on}
use Rattle.early.specs.EarlyLaws.{held_summary, held_both, held_second_refused, held_first_refused}
use Rattle.early.proofs.held.Goals as goal

pub returns-then-unplaced : goal.returns-then-unplaced
returns-then-unplaced c = λ p d i U. sym (held_summary U.hand _ U.summary_is c.if-unplaced.true)

pub returns : goal.returns
returns c = λ p d i U. c.levelled.ensures p d i U ∙ sym (held_both U.hand _ U.summary_is c.if-unplaced.false (c.constrained.ensures p d i U) _ c.in_ok-s.was (c.constrained-2.ensures p d i U) _ c.in_ok-u.was)

pub returns-in_err-u : goal.returns-in_err-u
returns-in_err-u c = rw (handed_on _ _ c.from_residual-in_err-u.ensures.1) (λ p d i U. sym (held_second_refused U.hand _ U.summary_is c.if-unplaced.false (c.constrained.ensures p d i U) _ c.in_ok-s.was (c.constrained-2.ensures p d i U) _ c.in_err-u.was))

pub returns-in_err-s : goal.returns-in_err-s
returns-in_err-s c = rw (handed_on _ _ c.from_residual.ensures.1) (λ p d i U. sym (held_first_refused U.hand _ U.summary_is c.if-unplaced.false (c.constrained.ensures p d i U) _ c.in_err-s.was))
