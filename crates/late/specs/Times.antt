-- The finish that a link leaves, in the steps of the code; and late dates as what a pass leaves.
use Rattle.std.specs.Prelude.{◌≡◌, Bool, ℕ, ◌^◌, ◌<◌, min, Result, Ok, Err}
use Rattle.dates.specs.declared.Span.{Span}
use Rattle.worktime.specs.declared.ClockError.{ClockError}
use Rattle.project.specs.declared.RelationshipType.{RelationshipType}
use Rattle.project.specs.declared.RelationshipType.TheVariants.{FinishToStart, StartToStart, FinishToFinish, StartToFinish}
use Rattle.placing.specs.Placing.{via, latest_same, finish_for_start}
use Rattle.order.specs.Plan.{Plan}
use Rattle.passes.specs.Dates.{Early, Late, Pass, leaves, refused}
use Rattle.passes.specs.Plan.{ties_out}
use Rattle.passes.specs.Backward.{late, lowered, held_late, placed_late}

-- late dates
abbrev pub dates_of : ℕ → ℕ → Result Span ClockError
dates_of s f = Ok (record { start = s; finish = f })

-- a successor's late times, each moved to its own next start
unfoldable pub times_of : (ℕ → Bool) → ℕ → ℕ → Result Span ClockError
times_of w ls lf = via Err (latest_same w ls) (λ s. via Err (latest_same w lf) (λ f. dates_of s f))

-- the one of them that a link counts back from
abbrev pub target_of : RelationshipType → ℕ → ℕ → ℕ
target_of FinishToStart ls lf = ls
target_of StartToStart ls lf = ls
target_of FinishToFinish ls lf = lf
target_of StartToFinish ls lf = lf

-- the finish that a bound v leaves: a bound on the start counts on
abbrev pub finish_by : (ℕ → Bool) → ℕ → RelationshipType → ℕ → Result ℕ ClockError
finish_by w left FinishToStart v = Ok v
finish_by w left StartToStart v = finish_for_start w left v
finish_by w left FinishToFinish v = Ok v
finish_by w left StartToFinish v = finish_for_start w left v

-- the latest finish so far, lowered by link k
abbrev pub lowering : (ℕ → Result ℕ ClockError) → ℕ → ℕ → (ℕ → Result ℕ ClockError) → Result ℕ ClockError
lowering link latest k go = via Err (link k) (λ f. go (min latest f))

-- what a pass leaves where it finds late dates of activity i
abbrev pub dated : Plan → Early → Late → ℕ → Result Span ClockError → Pass Late
dated p d l i (Ok x) = leaves (late p d l i x.start x.finish)
dated p d l i (Err k) = refused k

-- the late dates of an activity that is not completed
abbrev pub unfinished_late : Plan → Early → Late → ℕ → ℕ → Pass Late
unfinished_late p d l i last = via refused (lowered p d l i (ties_out p i) last) (λ f. via refused (held_late p d l i f) (placed_late p d l i))

-- they fit the memory
abbrev pub Fitting : Result Span ClockError → Type 0
Fitting r = (s f : ℕ) → r ≡ dates_of s f → (s < 2 ^ 63) × (f < 2 ^ 63)
