-- `longest::mark_links` meets its contract: the links of the chain before k have had their turns.
use mathlib.Core.Bool.{Bool}
use Prim.Native.Nat.{ℕ, ◌-◌}
use Rattle.memory.specs.Seen.{state, SameSlice}
use Rattle.topology.specs.Frame.{Frame}
use Rattle.order.specs.Plan.{plan_in}
use Rattle.longest.specs.WalkLaws.{Marking}
use Rattle.longest.proofs.mark_links.Given as goal

abbrev pub invariant-loop-k : goal.invariant-loop-k
invariant-loop-k l =
    SameSlice l.initial.tables l.tables × Frame 16 17 0 0 (state l.initial.tables) (state l.tables)
    × ((other : ℕ → Bool) → Marking (plan_in l.plan.sheet) l.initial.tables.kept (state l.initial.tables) l.i (state l.tables) other l.k)

abbrev pub decreases-loop-k : goal.decreases-loop-k
decreases-loop-k l = l.initial.tables.kept - l.k
