-- `rollup::roll_all` meets its contract: the depths from `d` up to the top are left.
use Rattle.memory.specs.Seen.{state, SameSlice}
use Rattle.order.specs.Plan.{plan_in}
use Rattle.rollup.specs.RollingLaws.{Rising}
use Rattle.rollup.proofs.roll_all.Given as goal

abbrev pub invariant-loop-d : goal.invariant-loop-d
invariant-loop-d l =
    SameSlice l.initial.tables l.tables
    × Rising (plan_in l.plan.sheet) (state l.initial.tables) (state l.tables) l.d
