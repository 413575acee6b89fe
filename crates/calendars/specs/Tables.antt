-- A calendar put into a table of numbers, its week packed (Packed).
use Rattle.std.specs.Prelude.{◌≡◌, List, ℕ, ◌+◌, ◌*◌, ◌<◌, length, get_or}
use Rattle.calendar.specs.declared.Period.{Period}
use Rattle.sheet.specs.declared.Place.{Place}
use Rattle.calendars.specs.Packed.{Holds}

-- ys is the table xs with a week put from `at` on, and what stands before is as it was
pub record WeekPut (xs : List ℕ) (at : ℕ) (week : List (List Period)) (ys : List ℕ) : Type 0 where
  pub size : length ys ≡ length xs
  pub before : (j : ℕ) → j < at → get_or ys j 0 ≡ get_or xs j 0
  pub holds : (q : ℕ) → q < 28 → Holds ys at week q

-- ys is the table xs with calendar k put, and the calendars before it are as they were
pub record CalendarPut (xs : List ℕ) (k : ℕ) (place : Place) (week : List (List Period)) (ys : List ℕ) : Type 0 where
  pub size : length ys ≡ length xs
  pub before : (j : ℕ) → j < 30 * k → get_or ys j 0 ≡ get_or xs j 0
  pub at_is : get_or ys (30 * k) 0 ≡ place.at
  pub exceptions_is : get_or ys (30 * k + 1) 0 ≡ place.exceptions
  pub holds : (q : ℕ) → q < 28 → Holds ys (30 * k + 2) week q
