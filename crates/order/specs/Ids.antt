-- Which activity has an id, who is under whom, and which activities are summaries.
use Rattle.std.specs.Prelude.{Bool, true, false, ◌||◌, ℕ, zero, suc, eqb}
use Rattle.order.specs.Plan.{Plan}

module _ (p : Plan) where
  abbrev pub id_of : ℕ → ℕ
  id_of i = (p.activity i).id

  -- some of the first n activities has the id
  unfoldable pub known : ℕ → ℕ → Bool
  known zero id = false
  known (suc n) id = eqb (id_of n) id || known n id

  -- the first of the k activities from i on that has the id, or i + k where none has
  unfoldable pub index_from : ℕ → ℕ → ℕ → ℕ
  index_from zero i id = i
  index_from (suc k) i id = elim (eqb (id_of i) id) [ true ↦ i | false ↦ index_from k (suc i) id ]

  -- the activity with the id
  unfoldable pub index_of : ℕ → ℕ
  index_of id = index_from p.activities 0 id

  -- "parent u32 (0 none)": 0 where activity i has none, and else one more than its parent's number
  unfoldable pub parent_of : ℕ → ℕ
  parent_of i = elim (eqb (p.activity i).parent 0) [ true ↦ 0 | false ↦ suc (index_of (p.activity i).parent) ]

  -- some of the first n activities is under activity i
  unfoldable pub parent_among : ℕ → ℕ → Bool
  parent_among zero i = false
  parent_among (suc n) i = eqb (parent_of n) (suc i) || parent_among n i

  -- "a summary (a parent of any activity)"
  unfoldable pub summary : ℕ → Bool
  summary i = parent_among p.activities i
