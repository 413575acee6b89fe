-- `rollup::prepare` meets its contract.
use mathlib.Core.Path.{sym, subst}
use Prim.Native.Nat.{ℕ}
use native.Mathlib.Omega.{arith}
use Rattle.memory.specs.Seen.{state}
use Rattle.memory.specs.Fields.{depth_of}
use Rattle.rollup.specs.Chained.{KeysIn}
use Rattle.rollup.specs.PreparedLaws.{depths_in}
use Rattle.rollup.proofs.prepare.Goals as goal

pub chain-requires : goal.chain-requires
chain-requires c =
    let x = c.args in
    let e = c.mark_depths.ensures in
    let T = state c.mark_depths.new.tables in
    (omega arith, omega arith, subst (λ (n : ℕ). KeysIn depth_of n T) (sym e.2.activities) (depths_in (state x.tables.now) T x.tables.now.activities e.0))
