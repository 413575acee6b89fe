-- The hours of a calendar in hand.
use Rattle.std.specs.Prelude.{List, ℕ}
use Rattle.calendar.specs.declared.Period.{Period}
use Rattle.calendar.specs.declared.value.Calendar.{Calendar}
use Rattle.calendar.specs.Records.{hours_on}

-- the hours of day d
abbrev pub hours_of : Calendar → ℕ → List Period
hours_of c = hours_on c.week.now c.exceptions.sheet.now c.exceptions.at c.exceptions.n
