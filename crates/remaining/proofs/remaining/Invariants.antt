-- `remaining::remaining`: the first i activities are done.
use Rattle.memory.specs.Seen.{state, SameSlice}
use Rattle.topology.specs.Frame.{Frame}
use Rattle.order.specs.Plan.{plan_in}
use Rattle.remaining.specs.Rows.{Passed}
use Rattle.remaining.proofs.remaining.Given as goal

abbrev pub invariant-loop-i : goal.invariant-loop-i
invariant-loop-i l =
    SameSlice l.initial.tables l.tables
    × Frame 14 20 0 0 (state l.initial.tables) (state l.tables)
    × Passed (plan_in l.plan.sheet) l.i (state l.tables)
