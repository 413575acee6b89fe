-- Which minutes a calendar works: its week, and its n E records from the byte `at` of the sheet on.
use Rattle.std.specs.Prelude.{Bool, List, ℕ}
use Rattle.calendar.specs.declared.Period.{Period}
use Rattle.calendar.specs.declared.value.Calendar.{Calendar}
use Rattle.calendar.specs.Hours.{worked}
use Rattle.calendar.specs.Records.{hours_on}

abbrev pub worked_on : List (List Period) → List ℕ → ℕ → ℕ → ℕ → Bool
worked_on week s at n = worked (hours_on week s at n)

-- the same of a calendar in hand
abbrev pub worked_by : Calendar → ℕ → Bool
worked_by c = worked_on c.week.now c.exceptions.sheet.now c.exceptions.at c.exceptions.n
