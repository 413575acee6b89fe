-- `topology::queue::Queue::release` meets its contract: the links of the chain before k are met.
use Prim.Native.Nat.{◌<◌}
use mathlib.Core.Path.{ap, ◌∙◌}
use native.Mathlib.Omega.{arith}
use Rattle.memory.specs.Seen.{state}
use Rattle.memory.specs.Fields.{first_out}
use Rattle.network.proofs.ProgressLaws.{progress_le, progress_at, progress_pos, progress_target, progress_space}
use Rattle.topology.specs.OrderLaws.{walk_start, walk_meets, walk_step, walk_next, walk_later, walk_end}
use Rattle.topology.specs.StepLaws.{tables_refl, tables_then}
use Rattle.topology.proofs.queue.Queue.release.Goals as goal

pub act-v-requires : goal.act-v-requires
act-v-requires c =
    let p = c.requires in (omega (arith, progress_le p.2), omega arith)

pub act-k-requires : goal.act-k-requires
act-k-requires c =
    let x = c.args in
    let p = c.requires in (omega (arith, (progress_at p.2 x.h p.0).0, c.act-v.ensures.0), omega arith)

pub loop-k-init : goal.loop-k-init
loop-k-init c =
    let p = c.requires in
    let S = state c.args.self.now.tables.now in
    let e = c.act-v.ensures.0 in
    let f = c.act-k.ensures.0 ∙ ap (S.act first_out) e in
    (tables_refl c.args.self.now.tables, rw (e, f) (walk_start p.1 p.2 p.0))

pub meet_link-requires : goal.meet_link-requires
meet_link-requires c =
    let L = c.loop-k in
    let p = c.requires in
    let s = L.invariant.0.same in
    let m = walk_meets p.1 L.invariant.1 (omega (arith, c.loop-k-test.true, s.kept)) in
    let a = s.activities in
    (omega arith, omega (arith, a, progress_space m), omega (arith, a, progress_target m), progress_pos m)

pub loop-k-smaller : goal.loop-k-smaller
loop-k-smaller c =
    let L = c.loop-k in
    let p = c.requires in
    let b : L.k < c.args.self.now.tables.now.kept = omega (arith, c.loop-k-test.true, L.invariant.0.same.kept) in
    let q = c.meet_link.new.self in
    omega (
      arith,
      c.link-k.ensures.0,
      walk_next p.1 L.invariant.1 (state q.tables.now) q.end c.meet_link.ensures.0,
      walk_later p.1 L.invariant.1 b,
      b,
    )

pub loop-k-preserved : goal.loop-k-preserved
loop-k-preserved c =
    let L = c.loop-k in
    let p = c.requires in
    let q = c.meet_link.new.self in
    let U = state q.tables.now in
    let e = c.meet_link.ensures in
    (tables_then L.invariant.0 e.1, walk_step p.1 L.invariant.1 U q.end c.link-k.result (omega (arith, c.loop-k-test.true, L.invariant.0.same.kept)) e.0 (c.link-k.ensures.0 ∙ walk_next p.1 L.invariant.1 U q.end e.0))

pub returns : goal.returns
returns c =
    let L = c.loop-k in
    let p = c.requires in
    (record { kept = L.invariant.1.kept; progress = walk_end p.1 L.invariant.1 (omega (arith, L.invariant.0.same.kept)) }, L.invariant.0)
