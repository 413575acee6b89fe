-- The parts of the forward pass of one activity: its links, then its placing; and what is stored of it.
use Rattle.std.specs.Prelude.{◌≡◌, ℕ, Result, Ok, Err}
use Rattle.worktime.specs.declared.ClockError.{ClockError}
use Rattle.early.specs.declared.values.Placement.{Placement}
use Rattle.placing.specs.declared.Actual.{Actual}
use Rattle.placing.specs.Placing.{via}
use Rattle.memory.specs.State.{State, put_act}
use Rattle.memory.specs.Fields.{early_start, early_finish, work_left}
use Rattle.order.specs.Plan.{Plan}
use Rattle.passes.specs.Plan.{ties_into, floor}
use Rattle.passes.specs.Dates.{Early, Pass, refused}
use Rattle.passes.specs.Forward.{raised}
use Rattle.early.specs.InHand.{after_start}

-- `forward_by` for work that is not completed
abbrev pub after_links : Plan → Early → ℕ → Result Actual ClockError → Pass Early
after_links p d i a = via refused (raised p d i (ties_into p i) (floor p)) (after_start p d i a)

-- S with the early dates and the minutes of work left of activity i
abbrev pub stored : State → ℕ → ℕ → ℕ → ℕ → State
stored S i s f m = put_act (put_act (put_act S early_start i s) early_finish i f) work_left i m

-- from S to T and with the answer r: what was found is stored, or nothing is
pub record Settled (i : ℕ) (x : Result Placement ClockError) (S T : State) (r : Result Unit ClockError) : Type 0 where
  pub placed : (y : Placement) → x ≡ Ok y → (T ≡ stored S i y.start y.finish y.left) × (r ≡ Ok tt)
  pub not_placed : (k : ClockError) → x ≡ Err k → (T ≡ S) × (r ≡ Err k)
