-- What is known of a sheet that was read: the promises that the layers above rest on, record by record.
use Rattle.std.specs.Prelude.{◌≡◌, true, Ok, List, ℕ, ◌+◌, ◌*◌, ◌≤◌, ◌<◌, length}
use Rattle.number.specs.Bytes.{byte_at}
use Rattle.calendar.specs.Records.{weekday_at, week_periods, Valid}
use Rattle.project.specs.Fields.{header_kind, calendar_kind, activity_kind, link_kind, header_size, calendar_size, week_size, activity_size, link_size, header_ok, calendar_ok, activity_ok, link_ok}
use Rattle.sheet.specs.declared.runs.RecordKind.TheVariants.{Week, Exception}
use Rattle.sheet.specs.declared.Contents.{Contents}
use Rattle.sheet.specs.Reading.{run_of}
use Rattle.sheet.specs.Places.{weeks_at, week_count, exceptions_at, exception_count, calendar_at, week_at, activity_at, link_at}

-- the calendar whose C stands at `at`
pub record CalendarRead (s : List ℕ) (at : ℕ) : Type 0 where
  pub kind : byte_at s at ≡ calendar_kind
  pub within : at + calendar_size ≤ length s
  pub fields : calendar_ok s at ≡ true
  pub weeks : run_of s Week (weeks_at at) ≡ Ok (week_count s at)
  pub exceptions : run_of s Exception (exceptions_at s at) ≡ Ok (exception_count s at)
  pub weeks_within : weeks_at at + week_size * week_count s at ≤ length s
  pub weekdays : (i : ℕ) → i < week_count s at → weekday_at s (weeks_at at) i < 7
  pub weeks_few : (k : ℕ) → length (week_periods s (weeks_at at) k (week_count s at)) ≤ 8
  pub exceptions_few : exception_count s at ≤ 256
  pub valid : Valid (week_at s at) s (exceptions_at s at) (exception_count s at)

-- the activity whose A stands at `at`
pub record ActivityRead (s : List ℕ) (at : ℕ) : Type 0 where
  pub kind : byte_at s at ≡ activity_kind
  pub within : at + activity_size ≤ length s
  pub fields : activity_ok s at ≡ true

-- the link whose L stands at `at`
pub record LinkRead (s : List ℕ) (at : ℕ) : Type 0 where
  pub kind : byte_at s at ≡ link_kind
  pub within : at + link_size ≤ length s
  pub fields : link_ok s at ≡ true

-- the header
pub record HeaderRead (s : List ℕ) : Type 0 where
  pub kind : byte_at s 0 ≡ header_kind
  pub within : header_size ≤ length s
  pub fields : header_ok s 0 ≡ true

-- the whole sheet
pub record SheetRead (s : List ℕ) (c : Contents) : Type 0 where
  pub header : HeaderRead s
  pub calendars_some : 0 < c.calendars
  pub calendars_few : c.calendars ≤ 15
  pub calendar : (k : ℕ) → k < c.calendars → CalendarRead s (calendar_at s k)
  pub activities_at : c.at ≡ calendar_at s c.calendars
  pub activities_few : c.activities ≤ 4096
  pub activity : (i : ℕ) → i < c.activities → ActivityRead s (activity_at c i)
  pub links_few : c.links ≤ 16384
  pub link : (i : ℕ) → i < c.links → LinkRead s (link_at c i)
  pub whole : length s ≡ c.at + activity_size * c.activities + link_size * c.links
