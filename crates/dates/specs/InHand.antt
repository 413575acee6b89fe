-- What code has in hand of an activity.
use Rattle.std.specs.Prelude.{◌≡◌, ℕ}
use Rattle.clock.specs.On.{worked_by}
use Rattle.placing.specs.declared.work.Work.{Work}
use Rattle.order.specs.Plan.{Plan}
use Rattle.passes.specs.Plan.{own}
use Rattle.passes.specs.Dates.{Early}

-- the work in hand is that of activity i, on its OWN calendar, and its minutes left are those of d
pub record InHand (p : Plan) (d : Early) (i : ℕ) (work : Work) : Type 0 where
  pub activity_is : work.activity ≡ p.activity i
  pub own_is : own p i ≡ worked_by work.calendar
  pub left_is : work.left ≡ d.left i
