-- What is left of a chain of links where a walk along it stands.
use Rattle.std.specs.Prelude.{List, ℕ, ◌+◌, ◌<◌}
use Rattle.cells.specs.Chain.{after, Stands}
use Rattle.memory.specs.State.{State}

-- of the first t links, those from k on whose field `key` is i
abbrev pub left : State → ℕ → ℕ → ℕ → ℕ → List ℕ
left S t key i k = after (S.link key) t i k

-- k is one of them, or t where there is none, and each link names by its field `next` the next with the same key
pub record Standing (S : State) (t key next i k : ℕ) : Type 0 where
  pub field : next < 16
  pub here : Stands (S.link key) t i k k
  pub nexts : (j : ℕ) → j < t → Stands (S.link key) t (S.link key j) (j + 1) (S.link next j)
