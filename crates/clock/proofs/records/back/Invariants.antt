-- `clock::records::back` meets its contract. The loop's invariant: before E record `j` less than `work` is passed, and what is counted up to there is what is counted up to day `d` less what is passed.
use mathlib.Core.Path.{◌≡◌}
use mathlib.Core.List.{List}
use Prim.Native.Nat.{ℕ, ◌-◌, ◌*◌, ◌^◌, ◌≤◌, ◌<◌}
use Rattle.calendar.specs.declared.Period.{Period}
use Rattle.calendar.specs.Records.{exception_day, Valid}
use Rattle.worktime.specs.Worked.{count}
use Rattle.clock.specs.On.{worked_on}
use Rattle.clock.specs.Regular.{Sums, regular}
use Rattle.clock.specs.Stands.{Behind}
use Rattle.clock.proofs.records.back.Given as goal

abbrev pub invariant-loop-j : goal.invariant-loop-j
invariant-loop-j l =
    (l.j ≤ l.from) × (l.passed < l.work) × (l.over < 2 ^ 43) × (l.over ≡ regular l.sums.entries l.next) × ((i : ℕ) → i < l.j → exception_day l.exceptions.sheet.now l.exceptions.at i ≤ l.next)
    × ((week : List (List Period)) → Valid week l.exceptions.sheet.now l.exceptions.at l.exceptions.n → Sums week l.sums.entries
    → (l.passed ≤ count (worked_on week l.exceptions.sheet.now l.exceptions.at l.exceptions.n) (l.d * 1440)) × Behind week l.exceptions.sheet.now l.exceptions.at l.exceptions.n l.sums.entries l.j (count (worked_on week l.exceptions.sheet.now l.exceptions.at l.exceptions.n) (l.d * 1440) - l.passed) l.over)
