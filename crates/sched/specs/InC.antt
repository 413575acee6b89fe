-- The C form of the call: the answer as five numbers in a lent slice.
use Rattle.std.specs.Prelude.{true, false, List, [], ◌∷◌, ◌++◌, ℕ, min, ltb, ℤ, pos, length, drop}
use Rattle.sched.specs.Answers.{Answer, Accepted}
use Rattle.sched.specs.Outcome.{Lent, Ended, outcome}

-- a number as an i64 holds it; none of an answer's is beyond
abbrev pub held_as : ℕ → ℤ
held_as n = pos (min n 9223372036854775807)

-- 0, finish day, activities, ignored links, open ends; or 1, number, id, 0, 0
unfoldable pub numbers_of : Answer → List ℤ
numbers_of (Accepted day a n o) = pos 0 ∷ day ∷ held_as a ∷ held_as n ∷ held_as o ∷ []
numbers_of (Answer.Refused number id) = pos 1 ∷ held_as number ∷ held_as id ∷ pos 0 ∷ pos 0 ∷ []

-- what is lent afterwards, the answer's slice among it
pub record Called : Type 0 where
  pub lent : Lent
  pub answer : List ℤ

abbrev pub called_with : List ℤ → Ended → Called
called_with answer x = record { lent = x.lent; answer = numbers_of x.answer ++ drop 5 answer }

-- where the answer's slice has no room for five numbers, nothing is written
unfoldable pub called : List ℕ → Lent → List ℤ → Called
called s m answer = elim (ltb (length answer) 5) [ true ↦ record { lent = m; answer = answer } | false ↦ called_with answer (outcome s m) ]
