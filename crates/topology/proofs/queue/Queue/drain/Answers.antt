-- `topology::queue::Queue::drain` meets its contract: h activities are out.
use mathlib.Core.List.{[]}
use Prim.Native.Nat.{◌+◌}
use native.Mathlib.Omega.{arith}
use Rattle.memory.specs.Fields.{waiting, order_at}
use Rattle.memory.specs.Seen.{state}
use Rattle.network.proofs.ProgressLaws.{progress_le}
use Rattle.network.specs.Array.{Progress}
use Rattle.topology.specs.Links.{links_of}
use Rattle.topology.specs.Order.{ChainsOut, Draining}
use Rattle.topology.specs.OrderLaws.{chains_out_kept, draining_now, draining_step}
use Rattle.topology.specs.StepLaws.{tables_then}
use Rattle.memory.specs.SeenLaws.{sized, sized_back}
use Rattle.topology.proofs.queue.Queue.drain.Goals as goal

pub release-requires : goal.release-requires
release-requires c =
    let L = c.loop-h in
    let p = c.requires in
    let s = L.invariant.0.same in
    let T = state L.self.tables.now in
    (c.loop-h-test.true, sized s (λ n k. ChainsOut n k T) (chains_out_kept L.invariant.1.kept p.0), sized s (λ n k. Progress (links_of T k) n (T.act order_at) (T.act waiting) L.h L.self.end []) (draining_now L.invariant.1))

pub loop-h-smaller : goal.loop-h-smaller
loop-h-smaller c =
    let L = c.loop-h in omega (arith, progress_le L.invariant.1.progress, c.loop-h-test.true)

pub loop-h-preserved : goal.loop-h-preserved
loop-h-preserved c =
    let L = c.loop-h in
    let e = c.release.ensures in
    let q = c.release.new.self in
    let U = state q.tables.now in
    let d = sized_back L.invariant.0.same (λ n k. Draining n k (state L.self.tables.now) U (L.h + 1) q.end) e.0 in
    (tables_then L.invariant.0 e.1, draining_step L.invariant.1 U q.end d.kept d.progress)

pub overflow_add-h : goal.overflow_add-h
overflow_add-h c =
    let L = c.loop-h in omega (arith, progress_le L.invariant.1.progress, c.loop-h-test.true, c.args.self.now.short)
