-- Chains through the table of activities: those with the same key, where 0 is no key.
use Rattle.std.specs.Prelude.{ℕ, suc, ◌+◌, ◌≤◌, ◌<◌}
use Rattle.cells.specs.Chain.{Stands}
use Rattle.memory.specs.State.{State}

-- of the activities from k on: `head i` is the first whose key is i + 1, and `next j` the first after j with its key; a is none
pub record Linked (key head next : ℕ → ℕ) (a k : ℕ) : Type 0 where
  pub heads : (i : ℕ) → i < a → Stands key a (suc i) k (head i)
  pub nexts : (j : ℕ) → k ≤ j → j < a → 0 < key j → Stands key a (key j) (j + 1) (next j)

-- in the fields `head` and the one after it
abbrev pub LinkedIn : ℕ → ℕ → ℕ → ℕ → State → Type 0
LinkedIn key head a k S = Linked (S.act key) (S.act head) (S.act (head + 1)) a k

-- every key is that of an activity, or none
-- a clause, and no type's field: it is of a field of the tables, which are written
abbrev pub KeysIn : ℕ → ℕ → State → Type 0
KeysIn key a S = (j : ℕ) → j < a → S.act key j ≤ a
