-- The answer of the call as 01 has it, and which answer the code's result stands for.
use Rattle.std.specs.Prelude.{Result, Ok, Err, ℕ, ℤ}
use Rattle.judges.specs.Judging.{sheet_number}
use Rattle.order.specs.Refusals.{plan_number, plan_id}
use Rattle.worktime.specs.Number.{clock_number}
use Rattle.sched.specs.declared.Accepted as declared
use Rattle.sched.specs.declared.Refusal.{Refusal}
use Rattle.sched.specs.declared.Refusal.TheVariants.{NoRoom, Sheet, Plan, Clock}

-- finish day, activities, ignored links and open ends; or the number and the id of a refusal
pub data Answer : Type 0 where
  Accepted : ℤ → ℕ → ℕ → ℕ → Answer
  Refused : ℕ → ℕ → Answer

-- the row of 01's table
abbrev pub refusal_number : Refusal → ℕ
refusal_number NoRoom = 1
refusal_number (Sheet e) = sheet_number e
refusal_number (Plan e) = plan_number e
refusal_number (Clock e) = clock_number e

-- the id that the row hands back, 0 where it has none
abbrev pub refusal_id : Refusal → ℕ
refusal_id NoRoom = 0
refusal_id (Sheet e) = 0
refusal_id (Plan e) = plan_id e
refusal_id (Clock e) = 0

abbrev pub answer_of : Result declared.Accepted Refusal → Answer
answer_of (Ok a) = Accepted a.finish_day a.activities a.ignored a.open_ends
answer_of (Err r) = Refused (refusal_number r) (refusal_id r)
