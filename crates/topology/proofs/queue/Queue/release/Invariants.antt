-- `topology::queue::Queue::release` meets its contract: the links of the chain before k are met.
use Prim.Native.Nat.{◌+◌, ◌-◌}
use Rattle.memory.specs.Seen.{state}
use Rattle.topology.specs.Steps.{SameTables}
use Rattle.topology.specs.OrderLaws.{Walk}
use Rattle.topology.proofs.queue.Queue.release.Given as goal

abbrev pub invariant-loop-k : goal.invariant-loop-k
invariant-loop-k l =
    SameTables l.initial.self.tables l.self.tables
    × Walk l.initial.self.tables.now.activities l.initial.self.tables.now.kept (state l.initial.self.tables.now) (state l.self.tables.now) (l.h + 1) l.v l.k l.self.end

abbrev pub decreases-loop-k : goal.decreases-loop-k
decreases-loop-k l = l.initial.self.tables.now.kept - l.k
