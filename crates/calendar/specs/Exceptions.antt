-- What is said of the E records of a calendar in hand.
use Rattle.std.specs.Prelude.{List, ℕ, ◌-◌, min}
use Rattle.calendar.specs.declared.Period.{Period}
use Rattle.calendar.specs.declared.hours.Hours.{Hours}
use Rattle.calendar.specs.declared.exceptions.Exceptions.{Exceptions}
use Rattle.calendar.specs.Records.{exception_day, exception_period, FirstFrom, InHand}

-- the day of record i
abbrev pub day_in : Exceptions → ℕ → ℕ
day_in e i = exception_day e.sheet.now e.at i

-- how many minutes record i gives its day
abbrev pub work_in : Exceptions → ℕ → ℕ
work_in e i = min 1440 (exception_period e.sheet.now e.at i).to - (exception_period e.sheet.now e.at i).from

-- r is the first record whose day is d or later, or their number
abbrev pub FirstOf : Exceptions → ℕ → ℕ → Type 0
FirstOf e d r = FirstFrom e.sheet.now e.at e.n d r

-- hours of day d in hand, by the row of its weekday
abbrev pub InHandOf : List Period → Exceptions → ℕ → Hours → Type 0
InHandOf row e d h = InHand row e.sheet.now e.at e.n d h
