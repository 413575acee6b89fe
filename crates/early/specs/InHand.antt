-- What the functions of one activity have in hand, and what they answer as the definition has it.
use Rattle.std.specs.Prelude.{◌≡◌, Bool, ℕ, Result, Ok, Err}
use Rattle.worktime.specs.declared.ClockError.{ClockError}
use Rattle.placing.specs.declared.Actual.{Actual}
use Rattle.placing.specs.Placing.{via, bounded, finish_of}
use Rattle.order.specs.Plan.{Plan}
use Rattle.passes.specs.Plan.{origin, floor}
use Rattle.passes.specs.Dates.{Early, Pass, leaves, refused}
use Rattle.passes.specs.Forward.{start_by, placed, early}
use Rattle.early.specs.declared.values.Times.{Times}
use Rattle.early.specs.declared.values.Placement.{Placement}
use Rattle.early.specs.declared.values.Unplaced.{Unplaced}
use Rattle.dates.specs.InHand.{InHand}
use Rattle.order.specs.Ids.{summary}

-- the project's times are those of the plan
pub record IsTimes (p : Plan) (times : Times) : Type 0 where
  pub origin_is : times.origin ≡ origin p
  pub floor_is : times.floor ≡ floor p
  pub data_is : times.data_date ≡ p.project.data_date
  pub mode_is : times.progress_mode ≡ p.project.progress_mode

-- the activity to be placed is activity i
pub record IsUnplaced (p : Plan) (d : Early) (i : ℕ) (u : Unplaced) : Type 0 where
  pub hand : InHand p d i u.work
  pub summary_is : u.is_summary ≡ summary p i
  pub times_are : IsTimes p u.times

module _ (p : Plan) (d : Early) (i : ℕ) where
  abbrev pub placed_as : Result Placement ClockError → Pass Early
  placed_as (Ok x) = leaves (early p d i x.start x.finish x.left)
  placed_as (Err k) = refused k

  -- the end of `placed`, once the start and the minutes are known
  abbrev pub finished_as : (ℕ → Bool) → ℕ → ℕ → Pass Early
  finished_as w s m = via refused (finish_of w m s) (λ g. via refused (bounded (origin p) g) (λ f. leaves (early p d i s f m)))

  -- the end of `forward_by` for work that is not completed, once the links are met
  abbrev pub after_start : Result Actual ClockError → ℕ → Pass Early
  after_start a r = via refused (start_by p d i a r) (placed p d i)
