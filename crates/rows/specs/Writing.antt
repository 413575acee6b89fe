-- A row of results in the parts that are written one after the other, and what its writer is lent.
use Rattle.std.specs.Prelude.{◌≡◌, Bool, true, false, List, [], ◌∷◌, ◌++◌, ℕ, zero, suc, ◌+◌, ◌<◌, ℤ, pos, set, Result}
use Rattle.worktime.specs.declared.ClockError.{ClockError}
use Rattle.number.specs.Bit.{bit}
use Rattle.number.specs.Sign.{whole_days}
use Rattle.date.specs.Days.{signed_minute}
use Rattle.placing.specs.declared.Actual.{Actual}
use Rattle.memory.specs.State.{State}
use Rattle.memory.specs.declared.Tables.{Tables}
use Rattle.memory.specs.Seen.{state}
use Rattle.memory.specs.Fields.{is_summary, early_start, early_finish, work_left}
use Rattle.order.specs.Plan.{Plan, plan_in}
use Rattle.order.specs.Ids.{id_of, summary}
use Rattle.order.specs.Ties.{calendar_of}
use Rattle.passes.specs.Plan.{recorded}
use Rattle.passes.specs.Floats.{day_of}
use Rattle.calendars.specs.declared.plan_calendar.PlanCalendar.{PlanCalendar}
use Rattle.calendars.specs.Calendars.{Lengths}
use Rattle.dates.specs.Standing.{Recorded}
use Rattle.results.specs.declared.Shown.{Shown}
use Rattle.results.specs.Results.{status_number}
use Rattle.results.specs.Rows.{signed_day_of}
use Rattle.results.specs.View.{shown_at}
use Rattle.sheet.specs.declared.value.Sheet.{Sheet}

-- the elements put one after the other, the first at `at + k`
abbrev pub stored_from : List ℤ → ℕ → ℕ → List ℤ → List ℤ
stored_from xs at k [] = xs
stored_from xs at k (z ∷ zs) = stored_from (set xs (at + k) z) at (suc k) zs

-- ---- the parts of a row
abbrev pub day_fields : Shown → List ℤ
day_fields x = signed_day_of x.days.es ∷ signed_day_of x.days.ef ∷ signed_day_of x.days.ls ∷ signed_day_of x.days.lf ∷ []

abbrev pub float_fields : ℕ → Shown → List ℤ
float_fields day_length x =
    whole_days x.total day_length ∷ whole_days (pos x.free) day_length ∷ x.total ∷ pos x.free ∷ pos (bit x.critical) ∷ pos (bit x.path) ∷ []

-- "0 for summaries"
abbrev pub minute_if : Bool → ℕ → ℤ
minute_if b t = elim b [ true ↦ pos 0 | false ↦ signed_minute t ]

abbrev pub work_fields : Bool → Result Actual ClockError → ℕ → ℕ → ℕ → List ℤ
work_fields b a left es ef = pos (status_number a) ∷ pos left ∷ minute_if b es ∷ minute_if b ef ∷ []

-- a row by its values
abbrev pub row_fields : ℕ → ℕ → Shown → Bool → Result Actual ClockError → ℕ → ℕ → ℕ → List ℤ
row_fields id day_length x b a left es ef = pos id ∷ (day_fields x ++ (float_fields day_length x ++ work_fields b a left es ef))

-- the row of activity i, from what is shown of it and its work left, early start and finish
abbrev pub row_with : Plan → ℕ → Shown → ℕ → ℕ → ℕ → List ℤ
row_with p i x left es ef = row_fields (id_of p i) (day_of p i) x (summary p i) (recorded p i) left es ef

unfoldable pub row_in : Plan → State → ℕ → List ℤ
row_in p S i = row_with p i (shown_at S i) (S.act work_left i) (S.act early_start i) (S.act early_finish i)

unfoldable pub rows_in : Plan → State → ℕ → List ℤ
rows_in p S zero = []
rows_in p S (suc n) = rows_in p S n ++ row_in p S n

-- a sheet that was read, day lengths, each activity's calendar among them, and in the memory the summaries' marks and the recorded work
-- a clause, and no type's field: it relates the tables, which the call writes before and clears after, to the sheet
pub record ToWrite (sheet : Sheet) (calendars : List PlanCalendar) (tables : Tables) : Type 0 where
  pub activities : tables.activities ≡ sheet.contents.activities
  pub links : tables.links ≡ sheet.contents.links
  pub days : Lengths (plan_in sheet) calendars
  pub named : (i : ℕ) → i < sheet.contents.activities → calendar_of (plan_in sheet) i < sheet.contents.calendars
  pub marks : (i : ℕ) → i < sheet.contents.activities → (state tables).act is_summary i ≡ bit (summary (plan_in sheet) i)
  pub recorded : Recorded (plan_in sheet) (state tables)
