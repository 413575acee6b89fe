-- Cells: a list of integers, each read as a natural number or as itself.
use Rattle.std.specs.Prelude.{List, ℕ, zero, suc, ◌+◌, ℤ, pos, get_or, set}
use Rattle.number.specs.Zed.{up}

-- the number in a cell: 0 past the end, and 0 for a negative one
unfoldable pub cell : List ℤ → ℕ → ℕ
cell xs at = up (get_or xs at (pos 0))

-- the list with v in a cell
unfoldable pub store : List ℤ → ℕ → ℕ → List ℤ
store xs at v = set xs at (pos v)

-- the integer in a cell: 0 past the end
unfoldable pub cell_z : List ℤ → ℕ → ℤ
cell_z xs at = get_or xs at (pos 0)

-- the list with z in a cell
unfoldable pub store_z : List ℤ → ℕ → ℤ → List ℤ
store_z xs at z = set xs at z

-- the list with v in the n cells from base on
unfoldable pub filled : List ℤ → ℕ → ℕ → ℕ → List ℤ
filled xs base v zero = xs
filled xs base v (suc n) = store (filled xs base v n) (base + n) v
