-- `clock::next_start` meets its contract. The loop has passed no worked minute: as many stand before its day and minute as before `t`.
use mathlib.Core.Path.{◌≡◌}
use Prim.Native.Nat.{◌≤◌, ◌<◌, ◌+◌, ◌*◌}
use Rattle.calendar.specs.Exceptions.{FirstOf}
use Rattle.date.specs.Years.{first_day}
use Rattle.worktime.specs.Worked.{count}
use Rattle.worktime.specs.Walks.{first_minute}
use Rattle.clock.specs.On.{worked_by}
use Rattle.clock.proofs.next_start.Given as goal

abbrev pub invariant-loop-d : goal.invariant-loop-d
invariant-loop-d l =
    (first_day ≤ l.d) × (first_minute ≤ l.t) × (l.m < 1440) × (count (worked_by l.calendar) (l.d * 1440 + l.m) ≡ count (worked_by l.calendar) l.t)
    × FirstOf l.calendar.exceptions l.d l.from
