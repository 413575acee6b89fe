-- `calendar::read_week` meets its contract. The loop keeps the rows of the records passed, and how many periods each has.
use Rattle.calendar.specs.WeekLaws.{Rows}
use Rattle.calendar.proofs.read_week.Given as goal

abbrev pub invariant-loop-i : goal.invariant-loop-i
invariant-loop-i l = Rows l.sheet l.at l.i l.counts l.week
