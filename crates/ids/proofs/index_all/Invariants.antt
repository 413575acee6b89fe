-- `ids::index_all` meets its contract: activities before i are fine and in the index.
use Rattle.order.specs.Plan.{plan_in}
use Rattle.order.specs.Checks.{judge_activity}
use Rattle.ids.specs.Index.{Indexed}
use Rattle.memory.specs.Seen.{state, SameSlice}
use Rattle.ids.specs.Answers.{OfIndex}
use Rattle.ids.specs.PassSteps.{Passing}
use Rattle.ids.proofs.index_all.Given as goal

abbrev pub invariant-loop-i : goal.invariant-loop-i
invariant-loop-i l =
    SameSlice l.fn.tables l.tables
    × Passing OfIndex (Indexed (plan_in l.sheet)) (judge_activity (plan_in l.sheet)) l.sheet.contents.activities (state l.fn.tables) (state l.tables) l.i
