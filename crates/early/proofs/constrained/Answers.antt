-- `early::constrained` meets its contract. Each way out has its law.
use Rattle.std.specs.Prelude.{Ok}
use mathlib.Core.Path.{sym, ap, ◌∙◌}
use Rattle.number.specs.Exits.{handed_on}
use Rattle.early.specs.EarlyLaws.{constrained_free, constrained_at, constrained_far, constrained_nowhere, constrained_refused}
use Rattle.early.proofs.constrained.Goals as goal

pub returns-in_default : goal.returns-in_default
returns-in_default c = λ p d i U. sym (constrained_free U.hand _ c.in_default.is)

pub returns-in_ok-t-in-Some-2 : goal.returns-in_ok-t-in-Some-2
returns-in_ok-t-in-Some-2 c = λ p d i U. c.at_early.ensures p d i U ∙ sym (constrained_at U.hand c.in-Some.is _ c.constraint_time.ensures _ _ (c.in_ok-x.was ∙ ap Ok c.in-Some-2.is) U.times_are.origin_is c.bounded.ensures _ c.in_ok-t-in-Some-2.was)

pub returns-in_err-t-in-Some-2 : goal.returns-in_err-t-in-Some-2
returns-in_err-t-in-Some-2 c = rw (handed_on _ _ c.from_residual-in_err-t-in-Some-2.ensures.1) (λ p d i U. sym (constrained_far U.hand c.in-Some.is _ c.constraint_time.ensures _ _ (c.in_ok-x.was ∙ ap Ok c.in-Some-2.is) U.times_are.origin_is c.bounded.ensures _ c.in_err-t-in-Some-2.was))

pub returns-in-None : goal.returns-in-None
returns-in-None c = λ p d i U. sym (constrained_nowhere U.hand c.in-Some.is _ c.constraint_time.ensures (c.in_ok-x.was ∙ ap Ok c.in-None.is))

pub returns-in_err-x : goal.returns-in_err-x
returns-in_err-x c = rw (handed_on _ _ c.from_residual.ensures.1) (λ p d i U. sym (constrained_refused U.hand c.in-Some.is _ c.constraint_time.ensures _ c.in_err-x.was))
