-- Small sheets read by the definitions: 01's own examples of rows 2 and 3, and its worked sheet.
use Rattle.std.specs.Prelude.{◌≡◌, refl, Ok, Err, List, [], ◌∷◌, ◌++◌, ℕ}
use Rattle.judges.specs.declared.SheetError.TheVariants.{Malformed, OutOfRange}
use Rattle.number.specs.Bytes.{u16_at, u32_at, biased_at}
use Rattle.calendar.specs.Records.{week_periods}
use Rattle.project.specs.Fields.{day_ok, day_or_absent, header_ok, calendar_ok, constraint_ok, activity_ok, link_ok}
use Rattle.sheet.specs.Reading.{run, run_of, calendar_end, calendars_from, read_sheet}
use Rattle.judges.specs.Judging.{judged, judge_calendar, period_ok, week_after, judge_week, judge_activity, judge_link}

-- "start 19723; [..] all codes and the threshold 0, optional fields absent"
abbrev header : List ℕ
header = 80 ∷ 11 ∷ 77 ∷ 0 ∷ 0 ∷ 0 ∷ 0 ∷ 0 ∷ 128 ∷ 0 ∷ 0 ∷ 0 ∷ 128 ∷ 0 ∷ 0 ∷ 0 ∷ 0 ∷ 0 ∷ 0 ∷ 0 ∷ 0 ∷ []

-- "C 480"
abbrev day480 : List ℕ
day480 = 67 ∷ 224 ∷ 1 ∷ []

-- "Monday to Friday 480 to 960"
abbrev period : ℕ → List ℕ
period day = 87 ∷ day ∷ 224 ∷ 1 ∷ 192 ∷ 3 ∷ []

abbrev week : List ℕ
week = period 0 ++ period 1 ++ period 2 ++ period 3 ++ period 4

-- "tasks 1 (960) and 2 (480)"
abbrev task : ℕ → ℕ → ℕ → List ℕ
task id low high = 65 ∷ id ∷ 0 ∷ 0 ∷ 0 ∷ 0 ∷ 0 ∷ 0 ∷ 0 ∷ 0 ∷ 0 ∷ low ∷ high ∷ 0 ∷ 0 ∷ 0 ∷ 0 ∷ 0 ∷ 128 ∷ 0 ∷ 0 ∷ 0 ∷ 128 ∷ 0 ∷ 0 ∷ 0 ∷ 128 ∷ 0 ∷ 0 ∷ 0 ∷ 128 ∷ 0 ∷ 0 ∷ 0 ∷ 0 ∷ 0 ∷ 0 ∷ 0 ∷ 0 ∷ 0 ∷ 0 ∷ 0 ∷ 0 ∷ 0 ∷ 128 ∷ []

-- "FS 1 to 2, lag 0"
abbrev link : List ℕ
link = 76 ∷ 1 ∷ 0 ∷ 0 ∷ 0 ∷ 2 ∷ 0 ∷ 0 ∷ 0 ∷ 0 ∷ 0 ∷ 0 ∷ 0 ∷ 0 ∷ 0 ∷ 0 ∷ []

-- row 2: "the empty sheet"
empty : read_sheet [] ≡ Err Malformed
unfolding read_sheet
empty = refl

-- row 3: "weekday 7"
weekday_7 : read_sheet (header ++ day480 ++ period 7) ≡ Err OutOfRange
unfolding read_sheet run_of calendar_end header_ok day_ok day_or_absent biased_at u32_at u16_at calendars_from judge_calendar judged calendar_ok run judge_week week_periods period_ok week_after judge_activity activity_ok constraint_ok judge_link link_ok
weekday_7 = refl

-- "P, C alone", which is read, and refused later by row 5
header_and_calendar : read_sheet (header ++ day480) ≡ Ok (record { calendars = 1; at = 24; activities = 0; links = 0 })
unfolding read_sheet run_of calendar_end header_ok day_ok day_or_absent biased_at u32_at u16_at calendars_from judge_calendar judged calendar_ok run judge_week week_periods period_ok week_after judge_activity activity_ok constraint_ok judge_link link_ok
header_and_calendar = refl

-- 01's worked sheet
worked_sheet : read_sheet (header ++ day480 ++ week ++ task 1 192 3 ++ task 2 224 1 ++ link) ≡ Ok (record { calendars = 1; at = 54; activities = 2; links = 1 })
unfolding read_sheet run_of calendar_end header_ok day_ok day_or_absent biased_at u32_at u16_at calendars_from judge_calendar judged calendar_ok run judge_week week_periods period_ok week_after judge_activity activity_ok constraint_ok judge_link link_ok
worked_sheet = refl
