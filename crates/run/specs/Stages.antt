-- The run in the stages of its code: early dates, late dates, floats and the longest path.
use Rattle.std.specs.Prelude.{◌≡◌, Bool, reverse, ℕ, Result, Ok, Err}
use Rattle.worktime.specs.declared.ClockError.{ClockError}
use Rattle.memory.specs.State.{State}
use Rattle.order.specs.Plan.{Plan}
use Rattle.order.specs.Checks.{order}
use Rattle.passes.specs.Dates.{Early, Late, Freed, Pass, leaves, refused, after, through}
use Rattle.passes.specs.Floats.{free_float, last_ones}
use Rattle.passes.specs.Run.{Ran, remaining, forward_pass, backward_pass, path_pass, run}
use Rattle.dates.specs.Columns.{early_in, late_in, free_in, path_in}

-- the early dates with the free floats and the longest path
pub record Floated : Type 0 where
  pub early : Early
  pub free : ℕ → ℕ
  pub path : ℕ → Bool

module _ (p : Plan) where
  -- the work left, and then the forward pass
  abbrev pub early_dates : Pass Early
  early_dates = after (remaining p) (forward_pass p)

  abbrev pub free_dates : ℕ → Early → Late → Pass Freed
  free_dates f d l = through (free_float p f l) (reverse (order p)) (record { early = d; free = λ i. 0 })

  -- free floats with held late moves, and then the longest path with the dates as they are after them
  abbrev pub float_dates : ℕ → Early → Late → Pass Floated
  float_dates f d l = after (free_dates f d l) (λ x. after (path_pass p f x.early) (λ path. leaves (record { early = x.early; free = x.free; path = path })))

  -- ---- what stands in the memory after a stage
  -- the late dates, with the end past the activities
  abbrev pub LateIn : Early → State → Result ℕ ClockError → Type 0
  LateIn d T (Err k) = backward_pass p d ≡ refused k
  LateIn d T (Ok e) = backward_pass p d ≡ leaves (late_in p T e)

  -- past the activities the marks of the longest path are those of what finishes the project
  abbrev pub floated_in : ℕ → State → Floated
  floated_in f T = record { early = early_in p T; free = free_in p T; path = path_in p T (last_ones p (early_in p T) f) }

  -- all of it, with the end e and the marks `other` past the activities
  abbrev pub ran_in : State → ℕ → (ℕ → Bool) → Ran
  ran_in T e other = record { early = early_in p T; late = late_in p T e; free = free_in p T; path = path_in p T other }

  pub record RanTo (T : State) (e : ℕ) : Type 0 where
    pub other : ℕ → Bool
    pub is : run p ≡ leaves (ran_in T e other)

  abbrev pub RunIn : State → Result ℕ ClockError → Type 0
  RunIn T (Err k) = run p ≡ refused k
  RunIn T (Ok e) = RanTo T e
