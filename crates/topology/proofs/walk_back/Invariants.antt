-- `topology::walk_back` meets its contract: m activities were passed.
use Prim.Native.Nat.{◌-◌}
use Rattle.memory.specs.Seen.{state, SameSlice}
use Rattle.topology.specs.LoopLaws.{GoingBack}
use Rattle.topology.proofs.walk_back.Given as goal

abbrev pub invariant-loop-start : goal.invariant-loop-start
invariant-loop-start l = SameSlice l.initial.tables l.tables × GoingBack l.initial.tables.activities l.initial.tables.kept (state l.initial.tables) (state l.tables) l.start l.m l.x

abbrev pub decreases-loop-start : goal.decreases-loop-start
decreases-loop-start l = l.initial.tables.activities - l.m
