-- `rest::clear_activities` meets its contract: the columns between the three stretches stand.
use native.Mathlib.Omega.{arith}
use Rattle.std.proofs.Common.{rules}
use Rattle.rest.specs.ClearedLaws.{clear_at, activities_cleared}
use Rattle.rest.proofs.clear_activities.Goals as goal

pub returns : goal.returns
returns c = (
  activities_cleared c.args.tables.now.activities (clear_at (omega arith) (omega arith) c.clear_cells.ensures)
      (clear_at (omega arith) (omega arith) c.clear_cells-2.ensures) (clear_at (omega arith) (omega arith) c.clear_cells-3.ensures),
  search rules,
)
