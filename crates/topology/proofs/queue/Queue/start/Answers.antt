-- `topology::queue::Queue::start` meets its contract.
use mathlib.Core.Path.{subst}
use Rattle.memory.specs.Fields.{waiting, order_at}
use Rattle.memory.specs.Seen.{state}
use Rattle.network.specs.Array.{Filled}
use Rattle.topology.specs.OrderLaws.{draining_start}
use Rattle.memory.specs.SeenLaws.{same_then}
use Rattle.topology.proofs.queue.Queue.start.Goals as goal

pub returns : goal.returns
returns c =
    let e = c.count_incoming.ensures in
    let f = c.first_ready.ensures in
    let q = c.first_ready.new.self in
    let U = state q.tables.now in
    (draining_start c.requires.1 e.0 e.1 (subst (λ n. Filled (U.act waiting) (U.act order_at) n q.end) e.2.activities f.0) f.1, record { same = same_then e.2 f.2.same; lent = f.2.lent })
