-- `topology::queue::Queue::first_ready` meets its contract: the first m activities are looked at.
use native.Mathlib.Omega.{arith}
use Rattle.memory.specs.Seen.{state}
use Rattle.memory.specs.Fields.{waiting, order_at, seen}
use Rattle.network.proofs.ProgressEnds.{filled_start, filled_le}
use Rattle.topology.specs.FrameLaws.{frame_refl, frame_then}
use Rattle.topology.specs.StepLaws.{readied_frame, readied_filled, tables_refl, tables_then}
use Rattle.topology.proofs.queue.Queue.first_ready.Goals as goal

pub loop-m-init : goal.loop-m-init
loop-m-init c =
    let t = c.args.self.now.tables in
    let S = state t.now in
    (tables_refl t, frame_refl order_at seen 0 0 S, rw c.requires (filled_start (S.act waiting) (S.act order_at)))

pub ready_one-requires : goal.ready_one-requires
ready_one-requires c =
    let L = c.loop-m in
    let s = L.invariant.0.same in (omega (arith, s.activities), omega (arith, s.activities, filled_le L.invariant.2))

pub loop-m-preserved : goal.loop-m-preserved
loop-m-preserved c =
    let L = c.loop-m in
    let T = state L.self.tables.now in
    let q = c.ready_one.new.self in
    let U = state q.tables.now in
    let e = c.ready_one.ensures in
    (tables_then L.invariant.0 e.1, frame_then order_at seen 0 0 L.invariant.1 (readied_frame T L.m L.self.end U q.end e.0), readied_filled T L.m L.self.end U q.end e.0 L.invariant.2)
