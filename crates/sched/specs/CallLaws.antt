-- The outcome by the ways of the code: what is left at each of its ends is what the definition says.
use Rattle.std.specs.Prelude.{◌≡◌, Result, List, ◌++◌, ℕ, ◌*◌, ℤ, pos, drop, replicate}
use Rattle.std.proofs.Math.ListN.{length}
use Rattle.order.specs.Plan.{Plan}
use Rattle.order.specs.Ties.{ignored_links}
use Rattle.passes.specs.Run.{Ran}
use Rattle.results.specs.declared.Shown.{Shown}
use Rattle.results.specs.Results.{results, finish_day}
use Rattle.results.specs.Rows.{signed_day_of, rows_below}
use Rattle.checks.specs.declared.PlanCounts.{PlanCounts}
use Rattle.checks.specs.Names.{then_zeros}
use Rattle.sched.specs.declared.Accepted.{Accepted}
use Rattle.sched.specs.declared.Refusal.{Refusal}
use Rattle.sched.specs.Answers.{Answer, answer_of}
use Rattle.sched.specs.Outcome.{Lent, Ended}

-- an answer with what is lent afterwards
abbrev pub left_with : Answer → List ℤ → List ℕ → List ℤ → Ended
left_with r results names work = record { answer = r; lent = record { results = results; names = names; work = work } }

-- the same of what the code answers
abbrev pub ended_with : Result Accepted Refusal → List ℤ → List ℕ → List ℤ → Ended
ended_with r results names work = left_with (answer_of r) results names work

abbrev pub zeros : List ℤ → List ℤ
zeros xs = replicate (length xs) (pos 0)

-- what was lent to the call, where the names already hold the ignored links
pub record LentAs (m : Lent) (p : Plan) (results : List ℤ) (names : List ℕ) (work : List ℤ) : Type 0 where
  pub results_is : results ≡ m.results
  pub names_is : names ≡ then_zeros (ignored_links p) m.names
  pub names_length : length names ≡ length m.names
  pub work_length : length work ≡ length m.work

-- the answer of an accepted plan and the rows that are written
pub record AcceptedAs (p : Plan) (ran : Ran) (f : ℕ → Shown) (c : PlanCounts) (results rows : List ℤ) (a : Accepted) : Type 0 where
  pub day_is : a.finish_day ≡ signed_day_of (finish_day p ran f p.activities)
  pub activities_is : a.activities ≡ p.activities
  pub ignored_is : a.ignored ≡ c.ignored
  pub ends_is : a.open_ends ≡ c.open_ends
  pub rows_is : rows ≡ rows_below p ran f p.activities ++ drop (15 * p.activities) results
