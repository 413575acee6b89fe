-- The ends of a link as rows 13 and 14 leave them.
use Rattle.std.specs.Prelude.{◌≡◌, true, ◌≢◌, ℕ, ◌<◌, Result, Ok, Err}
use Rattle.order.specs.Plan.{Plan}
use Rattle.order.specs.Ids.{known}
use Rattle.order.specs.Ties.{from_of, to_of}
use Rattle.order.specs.Checks.{judge_link}
use Rattle.order.specs.declared.PlanError.{PlanError}
use Rattle.order.specs.Refusals.{refused}
use Rattle.network.specs.Links.{Link}

-- link k goes from one activity to another
-- a clause, and no field of a link's ends: it relates them to the plan and to the link's number
pub record Between (p : Plan) (k from to : ℕ) : Type 0 where
  pub known_from : known p p.activities (p.link k).predecessor ≡ true
  pub known_to : known p p.activities (p.link k).successor ≡ true
  pub apart : (p.link k).predecessor ≢ (p.link k).successor
  pub from_is : from ≡ from_of p k
  pub to_is : to ≡ to_of p k
  pub from_below : from < p.activities
  pub to_below : to < p.activities

-- a refusal is the link's own, and else its ends are known
abbrev pub EndsOf : Plan → ℕ → Result Link PlanError → Type 0
EndsOf p k (Err e) = judge_link p k ≡ refused e
EndsOf p k (Ok ends) = Between p k ends.from ends.to
