-- `topology::waiting_before` meets its contract: none of the links into x that were looked at comes from one that waits.
use Rattle.memory.specs.Seen.{state}
use Rattle.topology.specs.LoopLaws.{Looking}
use Rattle.topology.proofs.waiting_before.Given as goal

abbrev pub invariant-loop-k : goal.invariant-loop-k
invariant-loop-k l = (goal.iterator-loop-k).can_next l.k-iterator × (goal.iterator-loop-k).is_finite l.k-iterator × Looking l.tables.kept (state l.tables) l.x l.k-iterator
