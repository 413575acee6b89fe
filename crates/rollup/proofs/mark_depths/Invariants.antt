-- `rollup::mark_depths` meets its contract: the first i have their depths.
use Rattle.memory.specs.Seen.{state, SameSlice}
use Rattle.topology.specs.Frame.{Frame}
use Rattle.rollup.specs.Depths.{DepthsTo}
use Rattle.rollup.proofs.mark_depths.Given as goal

abbrev pub invariant-loop-i : goal.invariant-loop-i
invariant-loop-i l =
    SameSlice l.initial.tables l.tables × Frame 30 31 0 0 (state l.initial.tables) (state l.tables) × DepthsTo (state l.initial.tables) (state l.tables) l.initial.tables.activities l.i
