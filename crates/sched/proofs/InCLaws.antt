-- The C form by the ways of its code.
use Rattle.std.specs.Prelude.{◌≡◌, Result, List, ◌++◌, ℕ, ◌≤◌, ◌<◌, ltb, ℤ, length, drop}
use Rattle.std.proofs.Math.Path.{sym, ap}
use Rattle.std.proofs.Common.{◌∙◌, lt-ltb, le-ltb}
use Rattle.worktime.specs.Reads.{on_true, on_false}
use Rattle.sched.specs.declared.Accepted as declared
use Rattle.sched.specs.declared.Refusal.{Refusal}
use Rattle.sched.specs.Answers.{answer_of}
use Rattle.sched.specs.Outcome.{Lent, outcome}
use Rattle.sched.specs.CallLaws.{ended_with}
use Rattle.sched.specs.InC.{numbers_of, called_with, called}

module _ (s : List ℕ) (m : Lent) (answer : List ℤ) where
  pub called_short : length answer < 5 → record { lent = m; answer = answer } ≡ called s m answer
  unfolding called
  called_short l = sym (on_true (ltb (length answer) 5) _ (called_with answer (outcome s m)) (lt-ltb (length answer) 5 l))

  pub called_whole : (r : Result declared.Accepted Refusal) (results : List ℤ) (names : List ℕ) (work after : List ℤ) → 5 ≤ length answer → ended_with r results names work ≡ outcome s m
      → after ≡ numbers_of (answer_of r) ++ drop 5 answer → record { lent = record { results = results; names = names; work = work }; answer = after } ≡ called s m answer
  unfolding called
  called_whole r results names work after l e f =
      (λ z. record { lent = record { results = results; names = names; work = work }; answer = f z }) ∙ ap (called_with answer) e
      ∙ sym (on_false (ltb (length answer) 5) _ (called_with answer (outcome s m)) (le-ltb (length answer) 5 l))
