-- `ids::parents` meets its contract: activities before i are fine and their parents kept.
use Rattle.order.specs.Plan.{plan_in}
use Rattle.order.specs.Checks.{judge_parent}
use Rattle.ids.specs.Parented.{Parented}
use Rattle.memory.specs.Seen.{state, SameSlice}
use Rattle.ids.specs.Answers.{OfParents}
use Rattle.ids.specs.PassSteps.{Passing}
use Rattle.ids.proofs.parents.Given as goal

abbrev pub invariant-loop-i : goal.invariant-loop-i
invariant-loop-i l =
    SameSlice l.fn.tables l.tables
    × Passing OfParents (Parented (plan_in l.sheet)) (judge_parent (plan_in l.sheet)) l.sheet.contents.activities (state l.fn.tables) (state l.tables) l.i
