-- The index of ids in the lent memory: as many trees as there are activities, in one of which the bits of an id lead from the root to the activity that has it.
use Rattle.std.specs.Prelude.{◌≡◌, true, false, ℕ, zero, suc, ◌<◌, eqb}
use Rattle.memory.specs.State.{State}
use Rattle.order.specs.Plan.{Plan}
use Rattle.order.specs.Ids.{id_of, known}
use Rattle.ids.specs.Tree.{Trees, Vacant}

module _ (p : Plan) where
  -- the first n activities in trees
  abbrev pub InTrees : State → ℕ → Type 0
  InTrees S n = Trees (id_of p) p.activities S.act n

  -- the row and the field where an activity with the id comes in after the first n
  abbrev pub PlaceFor : State → ℕ → ℕ → ℕ → ℕ → Type 0
  PlaceFor S = Vacant p.activities S.act

  -- the memory has the index of the first n activities, and no two of them have one id
  -- a clause, and no type's field: it relates the tables to the plan and to a number that grows as they are written
  pub record Indexed (S : State) (n : ℕ) : Type 0 where
    pub trees : InTrees S n
    pub fresh : (m : ℕ) → m < n → known p m (id_of p m) ≡ false

  -- the last of the first n activities that has the id, or the number of activities where none has
  unfoldable pub found_in : ℕ → ℕ → ℕ
  found_in zero id = p.activities
  found_in (suc n) id = elim (eqb (id_of p n) id) [ true ↦ n | false ↦ found_in n id ]
