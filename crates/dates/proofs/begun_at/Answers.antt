-- `dates::begun_at` meets its contract. The arm of a refusal, so that a wrong start there is told by its value.
use Rattle.std.specs.Prelude.{Result}
use mathlib.Core.Path.{sym, ap}
use Rattle.worktime.specs.declared.ClockError.{ClockError}
use Rattle.placing.specs.declared.Actual.{Actual}
use Rattle.passes.specs.Plan.{begun}
use Rattle.dates.proofs.begun_at.Goals as goal

pub returns-in-Err : goal.returns-in-Err
returns-in-Err c = λ p. sym (ap (λ (a : Result Actual ClockError). begun p a c.args.es) c.in-Err.is)
