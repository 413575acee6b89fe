-- `late::limits::limit_by` meets its contract. Of completed work and of a refusal, so that one taken for the other is told by what was recorded.
use Rattle.std.specs.Prelude.{Result}
use mathlib.Core.Path.{sym, ap, ◌∙◌}
use Rattle.worktime.specs.declared.ClockError.{ClockError}
use Rattle.placing.specs.declared.Actual.{Actual}
use Rattle.passes.specs.Backward.{limited_by}
use Rattle.number.specs.Exits.{handed_on}
use Rattle.late.specs.LimitLaws.{by_completed, by_refused}
use Rattle.late.proofs.limits.limit_by.Goals as goal

pub returns-in-Completed : goal.returns-in-Completed
returns-in-Completed c =
    λ p d l i O.
    let x = c.args in
    sym (ap (λ (a : Result Actual ClockError). limited_by p d l i a x.constraint x.latest) c.in_ok-recorded.was ∙ by_completed p d l i x.constraint x.latest _ _ _ c.in-Completed.is)

pub returns-in_err-recorded : goal.returns-in_err-recorded
returns-in_err-recorded c =
    rw (handed_on _ _ c.from_residual.ensures.1)
    (λ p d l i O. sym (by_refused p d l i c.args.constraint c.args.latest _ _ c.in_err-recorded.was))
