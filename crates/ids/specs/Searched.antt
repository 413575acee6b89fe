-- The answer of the search for an id.
use Rattle.std.specs.Prelude.{◌≡◌, ℕ, ◌<◌, Result, Ok, Err}
use Rattle.memory.specs.State.{State}
use Rattle.order.specs.Plan.{Plan}
use Rattle.ids.specs.declared.Vacancy.{Vacancy}
use Rattle.ids.specs.Index.{PlaceFor, found_in}

module _ (p : Plan) (S : State) (n id : ℕ) where
  -- the last of the first n activities that has the id, or the place where one that has it comes in
  abbrev pub Searched : Result ℕ Vacancy → Type 0
  Searched (Ok j) = (found_in p n id ≡ j) × (j < n)
  Searched (Err v) = (found_in p n id ≡ p.activities) × PlaceFor p S n id v.parent v.side
