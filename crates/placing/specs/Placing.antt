-- Where an activity's work can begin and end, on its own calendar: 000's placing of starts, finishes, constraints and recorded dates. `w` is the calendar's
-- worked minutes, `kind` what the activity is, and `left` its minutes of work left.
use Rattle.std.specs.Prelude.{Bool, true, false, ◌&&◌, ℕ, ◌+◌, ◌/◌, max, eqb, leb, Result, Ok, Err, Option, Some, None}
use Rattle.worktime.specs.declared.ClockError.{ClockError}
use Rattle.worktime.specs.declared.ClockError.TheVariants.{TooLong}
use Rattle.date.specs.declared.Date.{Date}
use Rattle.date.specs.Days.{biased, midnight}
use Rattle.worktime.specs.Walks.{reads, least, next_start, previous_finish, next_finish, previous_start, start_by, advance, retreat}
use Rattle.project.specs.declared.ActivityKind.{ActivityKind}
use Rattle.project.specs.declared.ActivityKind.TheVariants.{Task, StartMilestone, FinishMilestone}
use Rattle.project.specs.declared.End.{End}
use Rattle.project.specs.declared.End.TheVariants.{Start, Finish}
use Rattle.placing.specs.declared.Actual.{Actual}
use Rattle.placing.specs.declared.Actual.TheVariants.{Unstarted, Begun, Completed}

-- the minute with which a date begins
abbrev pub midnight_of : Date → ℕ
midnight_of d = midnight (biased d.0)

-- "status (0, 1, 2)": how far the work has come
abbrev pub status_of : Actual → ℕ
status_of Unstarted = 0
status_of (Begun s) = 1
status_of (Completed s f) = 2

-- ---- refusals travel: what follows a walk is made where the walk answers
abbrev pub via : {A : Type 0} → (ClockError → A) → Result ℕ ClockError → (ℕ → A) → A
via refused (Ok t) go = go t
via refused (Err k) go = refused k

-- "A time that `bounded` sees may lie 288,000,000 minutes from the start; one more is 8."
unfoldable pub bounded : ℕ → ℕ → Result ℕ ClockError
bounded origin t = elim (leb t (origin + 288000000) && leb origin (t + 288000000)) [ true ↦ Ok t | false ↦ Err TooLong ]

-- a start milestone, or a task with no work left
unfoldable pub is_moment : ActivityKind → ℕ → Bool
is_moment Task left = eqb left 0
is_moment StartMilestone left = true
is_moment FinishMilestone left = false

-- what a search found, or else a minute given
abbrev pub found : ℕ → Result ℕ ClockError → ℕ
found t (Ok u) = u
found t (Err k) = t

-- a walk's answer as a constraint's time
abbrev pub moment_of : Result ℕ ClockError → Result (Option ℕ) ClockError
moment_of (Ok t) = Ok (Some t)
moment_of (Err k) = Err k

-- recorded work from s on, with the finish that a walk found: never before the start
abbrev pub completed : ℕ → Result ℕ ClockError → Result Actual ClockError
completed s (Ok f) = Ok (Completed s (max f s))
completed s (Err k) = Err k

module _ (w : ℕ → Bool) where
  -- 000's `place_start`: a finish milestone at the next finish, any other at the next start
  unfoldable pub place_start : ActivityKind → ℕ → Result ℕ ClockError
  place_start Task t = next_start w t
  place_start StartMilestone t = next_start w t
  place_start FinishMilestone t = next_finish w t

  -- `finish_of`: the end of the work left from a start on
  abbrev pub finish_of : ℕ → ℕ → Result ℕ ClockError
  finish_of left start = advance w start left

  -- `start_for_finish`: the earliest start that finishes no earlier than t
  unfoldable pub start_for_finish : ℕ → ℕ → Result ℕ ClockError
  start_for_finish left t = elim (eqb left 0) [ true ↦ Ok t | false ↦ via Err (next_finish w t) (λ f. retreat w f left) ]

  -- `place_finish`: the latest finish at or before t; of a start milestone or a task with no work left, the next start after it where that is not after t
  unfoldable pub place_finish : ActivityKind → ℕ → ℕ → Result ℕ ClockError
  place_finish kind left t =
      via Err (previous_finish w t)
      (λ f. elim (is_moment kind left) [ true ↦ via Err (next_start w f) (λ s. elim (leb s t) [ true ↦ Ok s | false ↦ Ok f ]) | false ↦ Ok f ])

  -- `latest_same`: the latest moment that is the same as t, with no work between
  abbrev pub latest_same : ℕ → Result ℕ ClockError
  latest_same t = next_start w t

  -- `start_of`: the latest start that finishes by a late finish
  abbrev pub start_of : ℕ → ℕ → Result ℕ ClockError
  start_of left finish = retreat w finish left

  -- `finish_for_start`: the latest finish that starts no later than t, moments with no work between counting as one
  unfoldable pub finish_for_start : ℕ → ℕ → Result ℕ ClockError
  finish_for_start left t = elim (eqb left 0) [ true ↦ Ok t | false ↦ via Err (previous_start w t) (λ s. advance w s left) ]

  -- `finish_for_start_by`: the same for a constraint's date, which is strict
  unfoldable pub finish_for_start_by : ℕ → ℕ → Result ℕ ClockError
  finish_for_start_by left t = elim (eqb left 0) [ true ↦ Ok t | false ↦ via Err (start_by w t) (λ s. advance w s left) ]

  -- the start of a day's first work period, or its midnight where it has none
  unfoldable pub day_start : ℕ → ℕ
  day_start t = found t (least w 1440 t)

  -- `constraint_time`: for a start the start of its day's work, for a finish the last finish by the end of its day
  unfoldable pub constraint_time : Option End → Result (Option ℕ) ClockError
  constraint_time (Some (Start d)) = moment_of (reads Err (midnight_of d / 1440) (Ok (day_start (midnight_of d))))
  constraint_time (Some (Finish d)) = moment_of (previous_finish w (midnight_of d + 1440))
  constraint_time None = Ok None

  -- 000's `actual`: the next start from the recorded start day on (the finish day where only that is given), and the last finish by the end of the
  -- finish day, which is not before that start
  unfoldable pub actual : Option Date → Option Date → Result Actual ClockError
  actual None None = Ok Unstarted
  actual (Some d) None = via Err (next_start w (midnight_of d)) (λ s. Ok (Begun s))
  actual None (Some e) = via Err (next_start w (midnight_of e)) (λ s. completed s (previous_finish w (midnight_of e + 1440)))
  actual (Some d) (Some e) = via Err (next_start w (midnight_of d)) (λ s. completed s (previous_finish w (midnight_of e + 1440)))
