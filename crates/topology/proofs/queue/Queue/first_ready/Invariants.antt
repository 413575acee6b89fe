-- `topology::queue::Queue::first_ready` meets its contract: the first m activities are looked at.
use Rattle.memory.specs.Seen.{state}
use Rattle.memory.specs.Fields.{waiting, order_at, seen}
use Rattle.network.specs.Array.{Filled}
use Rattle.topology.specs.Frame.{Frame}
use Rattle.topology.specs.Steps.{SameTables}
use Rattle.topology.proofs.queue.Queue.first_ready.Given as goal

abbrev pub invariant-loop-m : goal.invariant-loop-m
invariant-loop-m l =
    SameTables l.initial.self.tables l.self.tables × Frame order_at seen 0 0 (state l.initial.self.tables.now) (state l.self.tables.now)
    × Filled ((state l.self.tables.now).act waiting) ((state l.self.tables.now).act order_at) l.m l.self.end
