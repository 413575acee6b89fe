-- What code has in hand of an activity that is not completed.
use Rattle.std.specs.Prelude.{◌≡◌, ℕ}
use Rattle.order.specs.Plan.{Plan}
use Rattle.passes.specs.Plan as plan
use Rattle.passes.specs.Dates.{Early}
use Rattle.dates.specs.InHand.{InHand}
use Rattle.late.specs.declared.unfinished.Unfinished.{Unfinished}

-- its work is that of activity i, and the project's start that of the plan
pub record IsUnfinished (p : Plan) (d : Early) (i : ℕ) (u : Unfinished) : Type 0 where
  pub hand : InHand p d i u.work
  pub origin_is : u.origin ≡ plan.origin p
