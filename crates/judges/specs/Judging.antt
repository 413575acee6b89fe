-- What one record in its place and whole is judged: row 4 or 3 of 01's table, or `Ok` where it may stand.
use Rattle.std.specs.Prelude.{Bool, true, false, ◌&&◌, ◌||◌, not, Result, Ok, Err, List, ℕ, zero, suc, ◌+◌, ◌*◌, eqb, leb, ltb, length}
use Rattle.calendar.specs.declared.Period.{Period}
use Rattle.calendar.specs.Records.{weekday_at, week_period_at, week_periods, exception_day, exception_period}
use Rattle.judges.specs.declared.SheetError.{SheetError}
use Rattle.judges.specs.declared.SheetError.TheVariants.{Malformed, OutOfRange, BeyondLimit}
use Rattle.project.specs.Fields.{activity_size, link_size, day_ok, calendar_ok, activity_ok, link_ok}

-- rows 2, 3 and 4 of 01's table
abbrev pub sheet_number : SheetError → ℕ
sheet_number Malformed = 2
sheet_number OutOfRange = 3
sheet_number BeyondLimit = 4

abbrev pub Verdict : Type 0
Verdict = Result Unit SheetError

-- ---- "sheet records in turn, each 2, 4, 3": 4 or 3 for a record that is in its place and whole, `Ok` where it may stand
unfoldable pub judged : Bool → Bool → Verdict
judged beyond ok = elim beyond [ true ↦ Err BeyondLimit | false ↦ elim ok [ true ↦ Ok tt | false ↦ Err OutOfRange ] ]

-- "At most 15 C"
unfoldable pub judge_calendar : List ℕ → ℕ → ℕ → Verdict
judge_calendar s at k = judged (leb 15 k) (calendar_ok s at)

-- "From < to ≤ 1,440"
unfoldable pub period_ok : Period → Bool
period_ok p = ltb p.from p.to && leb p.to 1440

-- "by weekday and time, without overlap": W record i + 1 after W record i
unfoldable pub week_after : List ℕ → ℕ → ℕ → Bool
week_after s at zero = true
week_after s at (suc i) =
    ltb (weekday_at s at i) (weekday_at s at (suc i))
    || (eqb (weekday_at s at i) (weekday_at s at (suc i)) && leb (week_period_at s at i).to (week_period_at s at (suc i)).from)

-- "at most 8 a weekday"; a weekday of 7 or more has no count
unfoldable pub judge_week : List ℕ → ℕ → ℕ → Verdict
judge_week s at i =
    judged (ltb (weekday_at s at i) 7 && leb 8 (length (week_periods s at (weekday_at s at i) i)))
    (ltb (weekday_at s at i) 7 && period_ok (week_period_at s at i) && week_after s at i)

-- "From and to both 0: no work"
unfoldable pub no_work : Period → Bool
no_work p = eqb p.from 0 && eqb p.to 0

-- "days not falling"; of one day "hours out of order or overlapping" are refused, and a day without work has no other record
unfoldable pub exception_after : List ℕ → ℕ → ℕ → Bool
exception_after s at zero = true
exception_after s at (suc i) =
    ltb (exception_day s at i) (exception_day s at (suc i))
    || (eqb (exception_day s at i) (exception_day s at (suc i)) && not (no_work (exception_period s at i)) && not (no_work (exception_period s at (suc i)))
    && leb (exception_period s at i).to (exception_period s at (suc i)).from)

-- "At most 256 a calendar"
unfoldable pub judge_exception : List ℕ → ℕ → ℕ → Verdict
judge_exception s at i =
    judged (leb 256 i)
    (day_ok (exception_day s at i) && (no_work (exception_period s at i) || period_ok (exception_period s at i)) && exception_after s at i)

-- "At most 4,096"
unfoldable pub judge_activity : List ℕ → ℕ → ℕ → Verdict
judge_activity s at i = judged (leb 4096 i) (activity_ok s (at + activity_size * i))

-- "At most 16,384"
unfoldable pub judge_link : List ℕ → ℕ → ℕ → Verdict
judge_link s at i = judged (leb 16384 i) (link_ok s (at + link_size * i))
