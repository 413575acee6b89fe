-- Demand 3 about the call's own answers: loops are refused exactly where kept links close one, and named; the early starts shown are the earliest.
use Rattle.std.specs.Prelude.{ℕ, ◌+◌, ◌*◌, ℤ, pos, get_or}
use Rattle.sched.specs.Answers.{Answer, Accepted}
use Rattle.sched.specs.Outcome.{Ended}

-- 01's number of an answer: 0 for an accepted plan
abbrev pub number_of : Answer → ℕ
number_of (Accepted day a n o) = 0
number_of (Answer.Refused number id) = number

-- the early start minutes among the results
abbrev pub starts_in : Ended → ℕ → ℤ
starts_in x i = get_or x.lent.results (15 * i + 13) (pos 0)
