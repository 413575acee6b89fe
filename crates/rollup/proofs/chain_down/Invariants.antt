-- `rollup::chain_down` meets its contract.
use Prim.Native.Nat.{◌+◌}
use Rattle.memory.specs.Seen.{state, SameSlice}
use Rattle.topology.specs.Frame.{Frame}
use Rattle.rollup.specs.Chained.{LinkedIn}
use Rattle.rollup.proofs.chain_down.Given as goal

abbrev pub invariant-loop-c : goal.invariant-loop-c
invariant-loop-c l =
    SameSlice l.initial.tables l.tables × Frame l.head (l.head + 2) 0 0 (state l.initial.tables) (state l.tables) × LinkedIn l.key l.head l.initial.tables.activities l.c (state l.tables)
