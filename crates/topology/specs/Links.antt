-- The links that stand in the first rows of the link table.
use Rattle.std.specs.Prelude.{List, [], ◌∷◌, ◌++◌, ℕ, zero, suc, ◌<◌}
use Rattle.memory.specs.State.{State}
use Rattle.memory.specs.Fields.{from_field, to_field}
use Rattle.network.specs.Links.{Link}

abbrev pub link_at : State → ℕ → Link
link_at S k = record { from = S.link from_field k; to = S.link to_field k }

unfoldable pub links_of : State → ℕ → List Link
links_of S zero = []
links_of S (suc t) = links_of S t ++ (link_at S t ∷ [])

-- the first t lead from and to one of a activities
-- a clause, and no field of the tables: it holds only once the links are stored, and the tables are written before
pub record Ends (a t : ℕ) (S : State) : Type 0 where
  pub leaves : (k : ℕ) → k < t → S.link from_field k < a
  pub enters : (k : ℕ) → k < t → S.link to_field k < a
