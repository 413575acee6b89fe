-- `rollup::roll_depth` meets its contract: the next summary of the depth is k.
use Prim.Native.Nat.{◌-◌}
use Rattle.memory.specs.Seen.{state, SameSlice}
use Rattle.order.specs.Plan.{plan_in}
use Rattle.rollup.specs.RollingLaws.{Rolls}
use Rattle.rollup.proofs.roll_depth.Given as goal

abbrev pub invariant-loop-k : goal.invariant-loop-k
invariant-loop-k l =
    SameSlice l.initial.tables l.tables × Rolls (plan_in l.plan.sheet) (state l.initial.tables) l.d (state l.tables) l.k

abbrev pub decreases-loop-k : goal.decreases-loop-k
decreases-loop-k l = l.plan.sheet.contents.activities - l.k
