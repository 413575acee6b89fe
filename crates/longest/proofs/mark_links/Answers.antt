-- `longest::mark_links` meets its contract: the links of the chain before k have had their turns.
use Prim.Native.Nat.{◌<◌}
use native.Mathlib.Omega.{arith}
use Rattle.memory.specs.Seen.{state}
use Rattle.memory.specs.SeenLaws.{same_refl, same_then}
use Rattle.topology.specs.FrameLaws.{frame_refl, frame_then}
use Rattle.order.specs.Plan.{plan_in}
use Rattle.bounds.specs.ReadyLaws.{activities_are}
use Rattle.number.specs.Exits.{handed_on}
use Rattle.longest.specs.KeptLaws.{lent_kept, hand_kept}
use Rattle.longest.specs.OwnLaws.{link_in}
use Rattle.longest.specs.WalkLaws.{marking_start, next_stands, marking_turn, marking_stop, marking_end}
use Rattle.longest.proofs.mark_links.Goals as goal

pub loop-k-init : goal.loop-k-init
loop-k-init c =
    let x = c.args in
    let p = plan_in x.plan.now.sheet in
    let S = state x.tables.now in
    (same_refl x.tables.now, frame_refl 16 17 0 0 S, marking_start p c.requires.0.ready.standing x.i (omega (arith, c.requires.2, activities_are x.plan.now.sheet.bytes.now x.plan.now.sheet.contents)) c.act-k.result c.act-k.ensures.0)

pub mark_link-requires : goal.mark_link-requires
mark_link-requires c =
    let x = c.args in
    let p = plan_in x.plan.now.sheet in
    let v = c.loop-k.invariant in
    (lent_kept c.requires.0 c.loop-k.tables v.1 v.0, hand_kept v.1 p x.i x.work.now c.requires.1, c.requires.2, c.loop-k-test.true)

pub returns-in_err-mark_link : goal.returns-in_err-mark_link
returns-in_err-mark_link c = rw (handed_on _ _ c.from_residual.ensures.1) (let x = c.args in
    let p = plan_in x.plan.now.sheet in
    let v = c.loop-k.invariant in
    let b : c.loop-k.k < x.tables.now.kept = omega (arith, c.loop-k-test.true, v.0.kept) in
    let m = c.mark_link in
    let S = state c.loop-k.tables in
    let T = state m.new.tables in (
      λ other.
          marking_stop p c.requires.0.ready.standing x.i v.1 b other (v.2 other) T m.result (m.ensures.0 other) c.in_err-mark_link.field-0.0 c.in_err-mark_link.was,
      frame_then 16 17 0 0 v.1 m.ensures.1,
      same_then v.0 m.ensures.2,
    ))

pub link-k-requires : goal.link-k-requires
link-k-requires c =
    let x = c.args in
    let p = plan_in x.plan.now.sheet in
    let v = c.loop-k.invariant in
    let b : c.loop-k.k < x.tables.now.kept = omega (arith, c.loop-k-test.true, v.0.kept) in
    let m = c.mark_link in
    (omega (arith, c.requires.0.ready.links, v.0.links, m.ensures.2.links, link_in c.requires.0 c.loop-k.k b), omega arith)

pub loop-k-smaller : goal.loop-k-smaller
loop-k-smaller c =
    let x = c.args in
    let p = plan_in x.plan.now.sheet in
    let v = c.loop-k.invariant in
    let b : c.loop-k.k < x.tables.now.kept = omega (arith, c.loop-k-test.true, v.0.kept) in
    let m = c.mark_link in
    omega (arith, (next_stands p c.requires.0.ready.standing x.i v.1 b m.ensures.1 c.link-k.result c.link-k.ensures.0).low, b)

pub loop-k-preserved : goal.loop-k-preserved
loop-k-preserved c =
    let x = c.args in
    let p = plan_in x.plan.now.sheet in
    let v = c.loop-k.invariant in
    let b : c.loop-k.k < x.tables.now.kept = omega (arith, c.loop-k-test.true, v.0.kept) in
    let m = c.mark_link in
    let T = state m.new.tables in (
      same_then v.0 m.ensures.2,
      frame_then 16 17 0 0 v.1 m.ensures.1,
      λ other.
          marking_turn p c.requires.0.ready.standing x.i v.1 b other (v.2 other) T m.result (m.ensures.0 other) m.ensures.1 c.in_ok-mark_link.was c.link-k.result c.link-k.ensures.0,
    )

pub returns : goal.returns
returns c =
    let x = c.args in
    let p = plan_in x.plan.now.sheet in
    let v = c.loop-k.invariant in
    (λ other. marking_end p c.requires.0.ready.standing x.i (state c.loop-k.tables) other (v.2 other) (omega (arith, c.loop-k-test.false, v.0.kept)), v.1, v.0)
