-- What stands in the lent memory once the links are judged: the kept ones, the parents and the summaries.
use Rattle.std.specs.Prelude.{◌≡◌, ℕ, ◌≤◌, ◌<◌, length}
use Rattle.number.specs.Bit.{bit}
use Rattle.memory.specs.State.{State}
use Rattle.memory.specs.Fields.{parent, is_summary}
use Rattle.order.specs.Plan.{Plan}
use Rattle.order.specs.Ids.{parent_of, summary}
use Rattle.order.specs.Ties.{kept_below}
use Rattle.passes.specs.Plan.{tie}
use Rattle.dates.specs.Standing.{tie_in}

pub record StoredLinks (p : Plan) (t : ℕ) (S : State) : Type 0 where
  -- t links are kept
  pub count : t ≡ length (kept_below p p.links)
  pub within : t ≤ p.links
  pub tied : (k : ℕ) → k < t → tie_in S k ≡ tie p k
  pub parents : (i : ℕ) → i < p.activities → S.act parent i ≡ parent_of p i
  pub marks : (i : ℕ) → i < p.activities → S.act is_summary i ≡ bit (summary p i)
