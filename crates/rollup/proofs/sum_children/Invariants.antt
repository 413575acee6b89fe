-- `rollup::sum_children` meets its contract: `x` is the sum so far, and the other children are left.
use Prim.Native.Nat.{suc}
use Rattle.memory.specs.Seen.{state}
use Rattle.memory.specs.Fields.{parent}
use Rattle.results.specs.View.{shown_to}
use Rattle.rollup.specs.Roll.{child_sum}
use Rattle.rollup.specs.RollLaws.{Sums}
use Rattle.rollup.proofs.sum_children.Given as goal

abbrev pub invariant-loop-c : goal.invariant-loop-c
invariant-loop-c l =
    (goal.iterator-loop-c).can_next l.c-iterator × (goal.iterator-loop-c).is_finite l.c-iterator
    × Sums (shown_to l.tables.activities (state l.tables)) ((state l.tables).act parent) l.tables.activities (suc l.s) (child_sum (state l.tables) l.tables.activities l.s) l.x.shown l.c-iterator
