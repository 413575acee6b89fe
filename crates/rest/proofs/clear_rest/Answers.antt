-- `rest::clear_rest` meets its contract.
use mathlib.Core.Path.{subst, ◌∙◌}
use native.Mathlib.Omega.{arith}
use Prim.Native.Nat.{◌+◌, ◌*◌}
use lib.ListN.{length}
use Rattle.std.proofs.Common.{rules}
use Rattle.memory.specs.State.{state_of}
use Rattle.memory.specs.Seen.{state}
use Rattle.memory.specs.SeenLaws.{same_then, sized_back}
use Rattle.rest.specs.Stands.{of_link, ColumnsCleared}
use Rattle.rest.specs.ClearedLaws.{clear_at}
use Rattle.rest.specs.RestLaws.{rest_is, rest_after}
use Rattle.rest.proofs.clear_rest.Goals as goal

pub returns : goal.returns
unfolding state
returns c =
    let x = c.args in
    let s = x.tables.now in
    let C = c.clear_activities.ensures in
    let G = c.clear_links.ensures in
    let ys = c.clear_activities.new.tables.cells.now in
    let zs = c.clear_links.new.tables.cells.now in
    let D = subst (λ n. ColumnsCleared (64 * s.activities) n (of_link s.kept) 0 7 ys zs) C.1.links
    (sized_back C.1 (λ n k. ColumnsCleared (64 * n) c.clear_activities.new.tables.links (of_link k) 0 7 ys zs) G.0) in
    let m = same_then C.1 G.1 in
    let E = clear_at {lo' = 64 * s.activities + 7 * s.links} {hi' = length s.cells.now} (omega (arith, m)) (omega (arith, m)) c.clear_cells.ensures in (
      (λ i. state_of (m.activities i) (m.links i) c.clear_cells.new.work) ∙ rest_is s.activities s.links x.tables.now.kept s.room C.0 D E,
      rest_after s.activities s.links x.tables.now.kept s.room C.0 D E,
      search rules,
    )
