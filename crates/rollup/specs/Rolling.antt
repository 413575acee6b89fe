-- What the roll-up needs of the memory, and a summary's own part of it.
use Rattle.std.specs.Prelude.{◌≡◌, true, false, ℕ, ◌≤◌, ◌<◌}
use Rattle.number.specs.Bit.{bit}
use Rattle.worktime.specs.Walks.{between}
use Rattle.memory.specs.State.{State}
use Rattle.memory.specs.Fields.{parent, is_summary, depth_of, first_deep, first_child}
use Rattle.network.specs.ParentLinks.{depth}
use Rattle.order.specs.Plan.{Plan}
use Rattle.order.specs.Ids.{parent_of, summary}
use Rattle.passes.specs.Plan.{own}
use Rattle.passes.specs.Dates.{Pass, leaves, refused}
use Rattle.passes.specs.Floats.{measured}
use Rattle.results.specs.declared.Shown.{Shown}
use Rattle.rollup.specs.Chained.{LinkedIn}
use Rattle.rollup.specs.Roll.{summed}

-- a summary's depth, and 0 for the others
unfoldable pub deep_of : Plan → ℕ → ℕ
deep_of p j = elim (summary p j) [ true ↦ depth (parent_of p) p.activities j | false ↦ 0 ]

-- parents, depths and the chains of both
-- a clause, and no type's field: it relates the tables, which are written, to the plan
pub record Deep (p : Plan) (S : State) : Type 0 where
  pub parents : (j : ℕ) → j < p.activities → S.act parent j ≡ parent_of p j
  pub depths : (j : ℕ) → j < p.activities → S.act depth_of j ≡ deep_of p j
  pub children : LinkedIn parent first_child p.activities 0 S
  pub deep : LinkedIn depth_of first_deep p.activities 0 S

-- the sum x with the float of summary s
unfoldable pub summed_pass : Plan → ℕ → Shown → Pass Shown
summed_pass p s x = measured refused (between (own p s) x.finish x.late) (λ total. leaves (summed p s total x))

-- what the checks leave that the roll-up reads
pub record ToRoll (p : Plan) (S : State) : Type 0 where
  pub parents : (i : ℕ) → i < p.activities → S.act parent i ≡ parent_of p i
  pub marks : (i : ℕ) → i < p.activities → S.act is_summary i ≡ bit (summary p i)
  pub within : (i : ℕ) → i < p.activities → parent_of p i ≤ p.activities
