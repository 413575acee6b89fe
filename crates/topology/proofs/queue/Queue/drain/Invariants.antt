-- `topology::queue::Queue::drain` meets its contract: h activities are out.
use Prim.Native.Nat.{◌-◌}
use Rattle.memory.specs.Seen.{state}
use Rattle.topology.specs.Steps.{SameTables}
use Rattle.topology.specs.Order.{Draining}
use Rattle.topology.proofs.queue.Queue.drain.Given as goal

abbrev pub invariant-loop-h : goal.invariant-loop-h
invariant-loop-h l =
    SameTables l.initial.self.tables l.self.tables
    × Draining l.initial.self.tables.now.activities l.initial.self.tables.now.kept (state l.initial.self.tables.now) (state l.self.tables.now) l.h l.self.end

abbrev pub decreases-loop-h : goal.decreases-loop-h
decreases-loop-h l = l.initial.self.tables.now.activities - l.h
