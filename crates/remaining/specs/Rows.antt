-- What one activity's row holds once its recorded dates are placed and its work left is found.
use Rattle.std.specs.Prelude.{◌≡◌, ◌≢◌, ℕ, ◌+◌, ◌<◌, Result, Ok}
use Rattle.worktime.specs.declared.ClockError.{ClockError}
use Rattle.placing.specs.declared.Actual.{Actual}
use Rattle.placing.specs.declared.Actual.TheVariants.{Unstarted, Begun, Completed}
use Rattle.placing.specs.Placing.{status_of, via}
use Rattle.memory.specs.State.{State, put_act}
use Rattle.memory.specs.Fields.{work_left, recorded_as, recorded_start, recorded_finish}
use Rattle.topology.specs.Frame.{Frame}
use Rattle.order.specs.Plan.{Plan}
use Rattle.passes.specs.Plan.{recorded}
use Rattle.passes.specs.Dates.{leaves, refused, put}
use Rattle.passes.specs.Forward.{left_of, left_below}
use Rattle.dates.specs.Columns.{column, ended}
use Rattle.dates.specs.Standing.{actual_in}

-- ---- the three cells of what is recorded
abbrev pub how_of : Actual → ℕ
how_of a = status_of a

abbrev pub start_of : Actual → ℕ
start_of Unstarted = 0
start_of (Begun s) = s
start_of (Completed s f) = s

abbrev pub finish_of : Actual → ℕ
finish_of Unstarted = 0
finish_of (Begun s) = 0
finish_of (Completed s f) = f

-- the state with what is recorded of activity i, and its work left
unfoldable pub kept : State → ℕ → Actual → ℕ → State
kept S i x left =
    put_act (put_act (put_act (put_act S recorded_as i (how_of x)) recorded_start i (start_of x)) recorded_finish i (finish_of x)) work_left i left

-- the work left of the first n activities, and none past them
abbrev pub left_to : ℕ → State → ℕ → ℕ
left_to n S = column n (λ i. 0) S work_left

-- from S on activity i is done: T is what it leaves, and r what it answers
pub record Row (p : Plan) (i : ℕ) (S T : State) (r : Result Unit ClockError) : Type 0 where
  pub left : ended (left_to (i + 1) T) r ≡ via refused (left_of p i) (λ m. leaves (put (left_to i S) i m))
  pub here : r ≡ (Ok tt) → Ok (actual_in T i) ≡ recorded p i
  pub others : (j : ℕ) → j ≢ i → actual_in T j ≡ actual_in S j
  pub frame : Frame 14 20 0 0 S T

-- the first i activities are done
pub record Passed (p : Plan) (i : ℕ) (S : State) : Type 0 where
  pub left : left_below p i ≡ leaves (left_to i S)
  pub recorded : (j : ℕ) → j < i → Ok (actual_in S j) ≡ recorded p j
