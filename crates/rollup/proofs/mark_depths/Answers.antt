-- `rollup::mark_depths` meets its contract: the first i have their depths.
use mathlib.Core.Path.{sym, ap, subst, ◌∙◌}
use Prim.Native.Nat.{ℕ, ◌+◌}
use Rattle.memory.specs.State.{State, put_act}
use Rattle.memory.specs.Seen.{state}
use Rattle.memory.specs.SeenLaws.{same_then}
use Rattle.memory.specs.Fields.{depth_of}
use Rattle.topology.specs.Frame.{Frame}
use Rattle.topology.specs.FrameLaws.{frame_then}
use Rattle.rollup.specs.Depths.{depth_key, DepthsTo}
use Rattle.rollup.specs.DepthLaws.{key_kept, depths_more, depth_frame}
use Rattle.rollup.proofs.mark_depths.Goals as goal

pub loop-i-preserved : goal.loop-i-preserved
loop-i-preserved c =
    let x = c.args in
    let L = c.loop-i in
    let e = c.mark_one.ensures in
    let v = depth_key (state L.tables) x.tables.now.activities L.i in
    let d = e.0 ∙ ap (λ (n : ℕ). put_act (state L.tables) depth_of L.i (depth_key (state L.tables) n L.i)) L.invariant.0.activities in (
      same_then L.invariant.0 e.1,
      subst (Frame 30 31 0 0 (state x.tables.now)) (sym d) (frame_then 30 31 0 0 L.invariant.1 (depth_frame (state L.tables) L.i v)),
      subst (λ (T : State). DepthsTo (state x.tables.now) T x.tables.now.activities (L.i + 1)) (sym d)
          (depths_more (state x.tables.now) (state L.tables) x.tables.now.activities L.i v (key_kept (state x.tables.now) (state L.tables) x.tables.now.activities L.i L.invariant.1) L.invariant.2),
    )
