-- `clock::days_work` meets its contract. The sum is what the days have with the E records before record `j` alone; those stand before day `next`, and the last of them, if any, on the day before it.
use mathlib.Core.Path.{◌≡◌}
use mathlib.Core.Logic.{◌⊎◌}
use mathlib.Core.List.{List}
use Prim.Native.Nat.{ℕ, ◌+◌, ◌-◌, ◌≤◌, ◌<◌}
use Rattle.calendar.specs.declared.Period.{Period}
use Rattle.calendar.specs.Records.{exception_day, hours_on}
use Rattle.clock.specs.Regular.{Sums, days_work}
use Rattle.clock.proofs.days_work.Given as goal

abbrev pub invariant-loop-j : goal.invariant-loop-j
invariant-loop-j l =
    (l.from ≤ l.j) × (l.j ≤ l.calendar.exceptions.n) × (l.d ≤ l.next) × (l.next ≤ l.e)
    × ((week : List (List Period)) → Sums week l.sums.entries → l.sum ≡ days_work (hours_on week l.calendar.exceptions.sheet.now l.calendar.exceptions.at l.j) l.d (l.e - l.d))
    × ((i : ℕ) → i < l.j → exception_day l.calendar.exceptions.sheet.now l.calendar.exceptions.at i < l.next)
    × ((l.next ≡ l.d) ⊎ ((0 < l.j) × (l.next ≡ exception_day l.calendar.exceptions.sheet.now l.calendar.exceptions.at (l.j - 1) + 1)))
