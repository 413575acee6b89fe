-- Where the records of a sheet stand.
use Rattle.std.specs.Prelude.{List, ℕ, zero, suc, ◌+◌, ◌*◌}
use Rattle.std.specs.Result.{result_unwrap_or}
use Rattle.calendar.specs.declared.Period.{Period}
use Rattle.calendar.specs.Records.{week_of}
use Rattle.project.specs.Fields.{header_size, calendar_size, week_size, exception_size, activity_size, link_size}
use Rattle.sheet.specs.declared.Contents.{Contents}
use Rattle.sheet.specs.declared.Place.{Place}
use Rattle.sheet.specs.declared.runs.RecordKind.{RecordKind}
use Rattle.sheet.specs.declared.runs.RecordKind.TheVariants.{Week, Exception}
use Rattle.sheet.specs.Reading.{run_of}

-- how many records a run has, 0 where one of them is refused
abbrev pub count_of : List ℕ → RecordKind → ℕ → ℕ
count_of s kind at = result_unwrap_or (run_of s kind at) 0

-- ---- the calendar whose C stands at `at`: where its W records begin and how many there are, then its E records
abbrev pub weeks_at : ℕ → ℕ
weeks_at at = at + calendar_size

unfoldable pub week_count : List ℕ → ℕ → ℕ
week_count s at = count_of s Week (weeks_at at)

unfoldable pub exceptions_at : List ℕ → ℕ → ℕ
exceptions_at s at = weeks_at at + week_size * week_count s at

unfoldable pub exception_count : List ℕ → ℕ → ℕ
exception_count s at = count_of s Exception (exceptions_at s at)

unfoldable pub next_calendar : List ℕ → ℕ → ℕ
next_calendar s at = exceptions_at s at + exception_size * exception_count s at

unfoldable pub place_at : List ℕ → ℕ → Place
place_at s at = record { weeks = week_count s at; at = exceptions_at s at; exceptions = exception_count s at; next = next_calendar s at }

-- where the C of calendar k stands
unfoldable pub calendar_at : List ℕ → ℕ → ℕ
calendar_at s zero = header_size
calendar_at s (suc k) = next_calendar s (calendar_at s k)

-- the week of the calendar whose C stands at `at`
unfoldable pub week_at : List ℕ → ℕ → List (List Period)
week_at s at = week_of s (weeks_at at) (week_count s at)

-- ---- where activity i and link i stand
abbrev pub activity_at : Contents → ℕ → ℕ
activity_at c i = c.at + activity_size * i

abbrev pub link_at : Contents → ℕ → ℕ
link_at c i = c.at + activity_size * c.activities + link_size * i
