-- `clock::records::ahead` meets its contract. The loop keeps where the walk stands, with less passed than it has to work.
use mathlib.Core.Path.{◌≡◌}
use mathlib.Core.List.{List}
use Prim.Native.Nat.{ℕ, ◌+◌, ◌*◌, ◌^◌, ◌≤◌, ◌<◌}
use Rattle.calendar.specs.declared.Period.{Period}
use Rattle.calendar.specs.Records.{exception_day, Valid}
use Rattle.worktime.specs.Worked.{count}
use Rattle.clock.specs.On.{worked_on}
use Rattle.clock.specs.Regular.{Sums, regular}
use Rattle.clock.specs.Stands.{Ahead}
use Rattle.clock.proofs.records.ahead.Given as goal

abbrev pub invariant-loop-j : goal.invariant-loop-j
invariant-loop-j l =
    (l.j ≤ l.exceptions.n) × (l.passed < l.work) × (l.over < 2 ^ 43) × (l.over ≡ regular l.sums.entries l.next) × ((i : ℕ) → l.j ≤ i → i < l.exceptions.n → l.next ≤ exception_day l.exceptions.sheet.now l.exceptions.at i + 1)
    × ((week : List (List Period)) → Valid week l.exceptions.sheet.now l.exceptions.at l.exceptions.n → Sums week l.sums.entries → Ahead week l.exceptions.sheet.now l.exceptions.at l.exceptions.n l.sums.entries l.j (count (worked_on week l.exceptions.sheet.now l.exceptions.at l.exceptions.n) (l.d * 1440) + l.passed) l.over)
