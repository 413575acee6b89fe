-- A link's lag in minutes, and the calendar that it counts on.
use Rattle.std.specs.Prelude.{Bool, false, ◌||◌, ℕ, ◌+◌, ltb, ℤ, pos, ◌*ℤ◌}
use Rattle.number.specs.Zed.{up, dn}
use Rattle.number.specs.Sign.{percent_of}
use Rattle.project.specs.declared.LagKind.{LagKind}
use Rattle.project.specs.declared.LagKind.TheVariants.{WorkingDays, WorkingMinutes, ElapsedDays, ElapsedMinutes, Percent}
use Rattle.project.specs.declared.LagCalendar.{LagCalendar}
use Rattle.project.specs.declared.LagCalendar.TheVariants.{Predecessor, Successor, TwentyFourHour}

-- "A lag beyond ±100,000 days or ±144,000,000 minutes is 8, before and after conversion"
abbrev pub beyond : ℕ → ℤ → Bool
beyond limit z = ltb limit (up z + dn z)

abbrev pub days_limit : ℕ
days_limit = 100000

abbrev pub minutes_limit : ℕ
minutes_limit = 144000000

-- the calendar of a working lag, from the predecessor's, the successor's, and the number of the round-the-clock one
unfoldable pub working_calendar : LagCalendar → ℕ → ℕ → ℕ → ℕ
working_calendar Predecessor pred succ last = pred
working_calendar Successor pred succ last = succ
working_calendar TwentyFourHour pred succ last = last
working_calendar LagCalendar.Project pred succ last = 0

-- the calendar that the lag counts on: an elapsed one round the clock, a percent on the predecessor's
unfoldable pub lag_calendar : LagKind → LagCalendar → ℕ → ℕ → ℕ → ℕ
lag_calendar (WorkingDays n) by pred succ last = working_calendar by pred succ last
lag_calendar (WorkingMinutes n) by pred succ last = working_calendar by pred succ last
lag_calendar (ElapsedDays n) by pred succ last = last
lag_calendar (ElapsedMinutes n) by pred succ last = last
lag_calendar (Percent n) by pred succ last = pred

-- the lag in minutes: days at the lag calendar's day length, or a share of the predecessor's minutes
unfoldable pub lag_minutes : LagKind → ℕ → ℤ → ℤ
lag_minutes (WorkingDays n) day_length duration = n *ℤ pos day_length
lag_minutes (WorkingMinutes n) day_length duration = n
lag_minutes (ElapsedDays n) day_length duration = n *ℤ pos 1440
lag_minutes (ElapsedMinutes n) day_length duration = n
lag_minutes (Percent n) day_length duration = percent_of duration n

-- "a percent is [..] checked only after"
unfoldable pub lag_before : LagKind → Bool
lag_before (WorkingDays n) = beyond days_limit n
lag_before (WorkingMinutes n) = beyond minutes_limit n
lag_before (ElapsedDays n) = beyond days_limit n
lag_before (ElapsedMinutes n) = beyond minutes_limit n
lag_before (Percent n) = false

unfoldable pub lag_too_long : LagKind → ℕ → ℤ → Bool
lag_too_long l day_length duration = lag_before l || beyond minutes_limit (lag_minutes l day_length duration)
