-- `sheet::read_calendars` meets its contract: the loop stands at calendar k.
use Rattle.std.proofs.Common.{◌-◌}
use Rattle.sheet.specs.CalendarSteps.{CalendarHere}
use Rattle.sheet.proofs.read_calendars.Given as goal

abbrev pub invariant-loop-at : goal.invariant-loop-at
invariant-loop-at l = CalendarHere l.sheet l.k l.at

abbrev pub decreases-loop-at : goal.decreases-loop-at
decreases-loop-at l = 15 - l.k
