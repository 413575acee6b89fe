-- Where a walk along the children of a summary stands.
use Rattle.std.specs.Prelude.{ℕ, suc, ◌+◌, ◌<◌}
use Rattle.cells.specs.Chain.{Stands}
use Rattle.memory.specs.State.{State}
use Rattle.memory.specs.Fields.{parent, next_child}

-- k is a child of s, or a where none is left, and each child names the next
pub record Standing (S : State) (a s k : ℕ) : Type 0 where
  pub here : Stands (S.act parent) a (suc s) k k
  pub nexts : (j : ℕ) → j < a → 0 < S.act parent j → Stands (S.act parent) a (S.act parent j) (j + 1) (S.act next_child j)
