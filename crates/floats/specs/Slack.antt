-- Free float and the held late move in plain form: what each stage finds, before anything is stored.
use Rattle.std.specs.Prelude.{◌≡◌, Bool, true, false, ◌&&◌, ◌||◌, List, ℕ, eqb, ℤ, Result, Ok, Err, Option}
use Rattle.dates.specs.declared.Span.{Span}
use Rattle.worktime.specs.declared.ClockError.{ClockError}
use Rattle.number.specs.Sign.{min_z}
use Rattle.worktime.specs.Walks.{advance, retreat, between}
use Rattle.project.specs.declared.ActivityKind.{ActivityKind}
use Rattle.project.specs.declared.Constraint.{Constraint}
use Rattle.placing.specs.declared.Actual.{Actual}
use Rattle.placing.specs.Placing.{via, place_start, finish_of}
use Rattle.cells.specs.Chain.{gather}
use Rattle.order.specs.Plan.{Plan}
use Rattle.order.specs.Ties.{Tie}
use Rattle.passes.specs.Plan.{own, tie, ties_out, recorded, begun}
use Rattle.passes.specs.Dates.{Early, Freed}
use Rattle.passes.specs.Forward.{forward_bound}
use Rattle.passes.specs.Floats.{measured, is_late, target_of, not_begun, free_by}
use Rattle.memory.specs.State.{State, put_act}
use Rattle.memory.specs.Fields.{early_start, early_finish, free_float}
use Rattle.dates.specs.Columns.{early_in, free_in}

-- the early dates and free floats that stand in the memory
abbrev pub freed_in : Plan → State → Freed
freed_in p S = record { early = early_in p S; free = free_in p S }

-- as late as possible in either constraint, and not begun
module _ (p : Plan) (d : Early) where
  unfoldable pub marked_late : Result Actual ClockError → Option Constraint → Option Constraint → Bool
  marked_late actual first second = not_begun p d actual && (is_late first || is_late second)

-- ---- the held late move, by values: w the activity's own worked minutes, `left` its work left, n the minutes of the move
unfoldable pub start_moved : (ℕ → Bool) → ActivityKind → ℕ → ℕ → ℕ → ℕ → Result ℕ ClockError
start_moved w kind es ef left n =
    via Err (advance w es n)
    (λ t. via Err (place_start w kind t)
    (λ moved. elim (eqb left 0) [
      | true ↦ Ok moved
      | false ↦ via Err (advance w ef n) (λ f. retreat w f left)
    ]))

-- the dates of a move
abbrev pub moved_to : ℕ → ℕ → Result Span ClockError
moved_to s f = Ok (record { start = s; finish = f })

unfoldable pub dates_moved : (ℕ → Bool) → ActivityKind → ℕ → ℕ → ℕ → ℕ → Result Span ClockError
dates_moved w kind es ef left n =
    via Err (start_moved w kind es ef left n) (λ s. via Err (finish_of w left s) (λ f. moved_to s f))

-- what follows a held late move
abbrev pub on_moved : {A : Type 0} → (ClockError → A) → Result Span ClockError → (ℕ → ℕ → A) → A
on_moved refusal (Ok x) go = go x.start x.finish
on_moved refusal (Err k) go = refusal k

-- the state with the move of activity i to s and f
abbrev pub stored : State → ℕ → ℕ → ℕ → State
stored S i s f = put_act (put_act (put_act S early_start i s) early_finish i f) free_float i 0

-- ---- free float
module _ (p : Plan) where
  -- the worked minutes of w from the bound of a link to where its successor is
  unfoldable pub gap_by : (ℕ → Bool) → Tie → ℕ → ℕ → ℕ → ℕ → Result ℤ ClockError
  gap_by w t start finish es ef = via Err (forward_bound p t start finish) (λ b. between w b (target_of p t.kind es ef))

  module _ (d : Early) where
    abbrev pub gap_of : ℕ → ℕ → Result ℤ ClockError
    gap_of i t =
        gap_by (own p i) (tie p t) (begun p (recorded p i) (d.es i)) (d.ef i) (d.es (tie p t).to) (d.ef (tie p t).to)

    abbrev pub slack_step : ℕ → ℤ → ℕ → (ℤ → Result ℤ ClockError) → Result ℤ ClockError
    slack_step i slack t go = measured Err (gap_of i t) (λ g. go (min_z slack g))

    -- the least of `slack` and what stands before the successors of some links
    abbrev pub least_slack : ℕ → List ℕ → ℤ → Result ℤ ClockError
    least_slack i ts slack = gather (slack_step i) Ok ts slack

    unfoldable pub slack_of : ℕ → ℕ → Result ℤ ClockError
    slack_of finish i = measured Err (between (own p i) (d.ef i) finish) (least_slack i (ties_out p i))

    -- where the links out of activity i count from
    pub record From (i start finish : ℕ) : Type 0 where
      pub start_is : start ≡ begun p (recorded p i) (d.es i)
      pub finish_is : finish ≡ d.ef i

    -- the free float in minutes; lf is the late finish
    unfoldable pub free_of : ℕ → ℕ → ℕ → Result ℕ ClockError
    free_of finish lf i =
        measured Err (slack_of finish i)
        (λ least. measured Err (between (own p i) (d.ef i) lf) (λ total. Ok (free_by p d (recorded p i) least total)))
