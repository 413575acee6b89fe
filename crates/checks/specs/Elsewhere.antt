-- Where the checks are fine, every cell of the lent memory that `Standing` does not read is 0.
use Rattle.std.specs.Prelude.{◌≡◌, false, ℕ, ◌+◌, ◌*◌, ◌≤◌, ◌<◌, pos}
use Rattle.cells.specs.Cell.{cell_z}
use Rattle.memory.specs.Seen.{state}
use Rattle.memory.specs.declared.Tables.{Tables}
use Rattle.rest.specs.Stands.{act_stands, link_stands}

-- t links are kept; `Standing` says the fields that stand, each by what is read of it
pub record Elsewhere (t : ℕ) (tables : Tables) : Type 0 where
  -- the other fields of activities
  pub acts : (f i : ℕ) → act_stands f ≡ false → (state tables).act_z f i ≡ pos 0
  -- the other fields of kept links, and the rows after them
  pub links : (f k : ℕ) → k < t → link_stands f ≡ false → (state tables).link_z f k ≡ pos 0
  pub unused : (f k : ℕ) → t ≤ k → (state tables).link_z f k ≡ pos 0
  -- the cells after both tables
  pub after : (j : ℕ) → 64 * tables.activities + 16 * tables.links ≤ j → cell_z tables.cells.now j ≡ pos 0
