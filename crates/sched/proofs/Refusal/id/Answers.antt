-- `sched::Refusal::id` meets its contract: a failed check's id, and 0 where a refusal has none.
use mathlib.Core.Path.{sym, ap}
use mathlib.Core.Logic.{⊎_elim}
use native.Mathlib.Omega.{arith}
use Rattle.sched.specs.Answers.{refusal_id}
use Rattle.sched.proofs.Refusal.id.Goals as goal

pub returns-in-NoRoom : goal.returns-in-NoRoom
returns-in-NoRoom c =
    (⊎_elim (λ e. sym (ap refusal_id e)) (⊎_elim (λ e. sym (ap refusal_id e.1)) (λ e. sym (ap refusal_id e.1))) c.in-NoRoom.is, omega arith)

pub returns-in-Plan : goal.returns-in-Plan
returns-in-Plan c = (omega (arith, ap refusal_id c.in-Plan.is), omega arith)
