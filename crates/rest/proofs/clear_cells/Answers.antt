-- `rest::clear_cells` meets its contract.
use mathlib.Core.Path.{sym, subst}
use mathlib.Core.List.{List}
use native.Mathlib.Omega.{arith}
use lib.IntN.{ℤ}
use Rattle.rest.specs.Stands.{Cleared}
use Rattle.rest.specs.ClearedLaws.{fill_clears}
use Rattle.rest.proofs.clear_cells.Goals as goal

pub returns : goal.returns
returns c =
    let x = c.args in
    subst (λ (ys : List ℤ). Cleared x.from x.to x.work.now ys) (sym c.fill.ensures)
    (fill_clears x.work.now x.from x.to (omega arith) (omega arith))
