-- `calendar::hours::select_in` meets its contract. What is left is selected in the periods that are left.
use Rattle.std.proofs.Common.{◌≡◌, drop}
use Rattle.calendar.specs.Hours.{select}
use Rattle.calendar.proofs.hours.select_in.Given as goal

abbrev pub invariant-loop-i : goal.invariant-loop-i
invariant-loop-i g l = select (drop l.i (g.P.Periods.list l.periods)) l.left ≡ select (g.P.Periods.list l.periods) l.k
