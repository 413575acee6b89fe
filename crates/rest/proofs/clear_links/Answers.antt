-- `rest::clear_links` meets its contract: after f turns the first f columns are cleared.
use mathlib.Core.Logic.{inl}
use mathlib.Core.Path.{ap}
use Prim.Native.Nat.{ℕ, ◌*◌}
use native.Mathlib.Omega.{arith}
use Rattle.std.proofs.Common.{rules}
use Rattle.rest.specs.Stands.{of_link}
use Rattle.rest.specs.ClearedLaws.{clear_at, columns_then, column_cleared}
use Rattle.rest.proofs.clear_links.Goals as goal

pub loop-f-preserved : goal.loop-f-preserved
loop-f-preserved c =
    let L = c.loop-f in
    let x = c.args in
    let s = x.tables.now in
    let p = L.invariant.0 in
    let q = ap (λ (n : ℕ). L.f * n) p.links in (
      search rules,
      columns_then (64 * s.activities) s.links (of_link x.tables.now.kept) (inl (omega arith)) (omega arith) (omega arith) L.invariant.1
          (column_cleared (64 * s.activities) s.links x.tables.now.kept L.f (omega arith) (clear_at (omega (arith, p, p.kept, q)) (omega (arith, p, p.kept, q)) c.clear_cells.ensures)),
    )
