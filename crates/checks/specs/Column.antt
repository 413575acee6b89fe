-- A loop of activities in a column of the lent memory.
use Rattle.std.specs.Prelude.{◌≡◌, List, ℕ, ◌+◌, ◌<◌, length, get_or}
use Rattle.memory.specs.State.{State}
use Rattle.topology.specs.Loop.{loop_at}

-- the first m of xs stand in the column, each one of a activities, and the last of xs is its first
pub record LoopIn (a m : ℕ) (xs : List ℕ) (S : State) : Type 0 where
  pub some : 0 < m
  pub count : length xs ≡ m + 1
  pub is : (k : ℕ) → k < m → S.act loop_at k ≡ get_or xs k 0
  pub below : (k : ℕ) → k < m → S.act loop_at k < a
  pub closed : get_or xs m 0 ≡ get_or xs 0 0
