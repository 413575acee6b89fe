-- Parents and summaries in the lent memory.
use Rattle.std.specs.Prelude.{◌≡◌, ℕ, ◌<◌}
use Rattle.number.specs.Bit.{bit}
use Rattle.memory.specs.State.{State}
use Rattle.memory.specs.Fields.{parent, is_summary}
use Rattle.order.specs.Plan.{Plan}
use Rattle.order.specs.Ids.{parent_of, parent_among}

-- the memory has the parents of the first n activities, and marks those that are above one of them
-- a clause, and no type's field: it relates the tables to the plan and to a number that grows as they are written
pub record Parented (p : Plan) (S : State) (n : ℕ) : Type 0 where
  pub parents : (i : ℕ) → i < n → S.act parent i ≡ parent_of p i
  pub marks : (j : ℕ) → j < p.activities → S.act is_summary j ≡ bit (parent_among p n j)
