-- `early::levelled` meets its contract. Each way out has its law.
use mathlib.Core.Path.{sym, ◌∙◌}
use Rattle.early.specs.EarlyLaws.{levelled_on, levelled_absent}
use Rattle.early.proofs.levelled.Goals as goal

pub returns-in-Some : goal.returns-in-Some
returns-in-Some c = λ p d i U. c.constrained.ensures p d i U ∙ sym (levelled_on U.hand _ _ c.in-Some.is)

pub returns-in-None : goal.returns-in-None
returns-in-None c = λ p d i U. sym (levelled_absent U.hand _ c.in-None.is)
