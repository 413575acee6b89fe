-- `longest::is_completed` meets its contract: work that has finished is completed.
use mathlib.Core.Path.{ap, sym}
use Rattle.std.specs.Prelude.{Ok}
use Rattle.placing.specs.declared.Actual.{Actual}
use Rattle.passes.specs.Floats.{is_completed}
use Rattle.longest.proofs.is_completed.Goals as goal

pub returns-in-Completed : goal.returns-in-Completed
returns-in-Completed c = λ p. sym (ap (λ (r : Actual). is_completed p (Ok r)) c.in-Completed.is)
