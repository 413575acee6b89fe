-- `early::start_by` meets its contract. Each way out has its law.
use Rattle.std.specs.Prelude.{Ok}
use mathlib.Core.Path.{sym, ap, ◌∙◌}
use Rattle.number.specs.Exits.{handed_on}
use Rattle.early.specs.EarlyLaws.{start_unstarted, start_begun, start_completed, start_refused}
use Rattle.early.proofs.start_by.Goals as goal

pub returns-in-Unstarted : goal.returns-in-Unstarted
returns-in-Unstarted c = λ p d i U. c.held.ensures p d i U ∙ sym (start_unstarted U.hand _ _ (c.in_ok-actual.was ∙ ap Ok c.in-Unstarted.is))

pub returns-in-Begun : goal.returns-in-Begun
returns-in-Begun c = λ p d i U. ap Ok (c.resumed.ensures p d U.times_are) ∙ sym (start_begun U.hand _ _ _ (c.in_ok-actual.was ∙ ap Ok c.in-Begun.is))

pub returns-in-Completed : goal.returns-in-Completed
returns-in-Completed c = λ p d i U. sym (start_completed U.hand _ _ _ _ (c.in_ok-actual.was ∙ ap Ok c.in-Completed.is))

pub returns-in_err-actual : goal.returns-in_err-actual
returns-in_err-actual c = rw (handed_on _ _ c.from_residual.ensures.1) (λ p d i U. sym (start_refused U.hand _ _ _ c.in_err-actual.was))
