-- A row or none, as the cell of a field holds it.
use Rattle.std.specs.Prelude.{ℕ, ◌+◌, Option, Some, None}

-- 0 for none, and else one more than the row
abbrev pub cell_of : Option ℕ → ℕ
cell_of (Some i) = i + 1
cell_of None = 0
