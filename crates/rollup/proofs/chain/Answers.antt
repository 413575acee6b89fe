-- `rollup::chain` meets its contract.
use mathlib.Core.Path.{sym, subst}
use Prim.Native.Nat.{ℕ, ◌+◌}
use native.Mathlib.Omega.{arith}
use Rattle.memory.specs.Seen.{state}
use Rattle.memory.specs.SeenLaws.{same_then}
use Rattle.topology.specs.Frame.{Frame}
use Rattle.topology.specs.FrameLaws.{frame_fill, frame_then}
use Rattle.rollup.specs.Chained.{LinkedIn}
use Rattle.rollup.proofs.chain.Goals as goal

pub returns : goal.returns
returns c =
    let x = c.args in
    let S = state x.tables.now in
    let a = x.tables.now.activities in
    let F = frame_fill x.head (x.head + 2) 0 0 x.head (omega arith) (omega arith) S a a in
    let d = c.fill_act.ensures in
    let e = c.chain_down.ensures in (
      subst (λ (n : ℕ). LinkedIn x.key x.head n 0 (state c.chain_down.new.tables)) d.1.activities e.0,
      frame_then x.head (x.head + 2) 0 0 (subst (Frame x.head (x.head + 2) 0 0 S) (sym d.0) F) e.1,
      same_then d.1 e.2,
    )
