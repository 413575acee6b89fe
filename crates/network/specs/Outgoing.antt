-- The links out of an activity and into it, in rising order: by index, as chains in memory list them, and by the activities at their other ends.
use Rattle.std.specs.Prelude.{true, false, List, [], ◌∷◌, map, ℕ, ◌-◌, eqb, length, get_or}
use Rattle.cells.specs.Chain.{keyed}
use Rattle.network.specs.Links.{Link, no_link}
use Rattle.network.specs.Kahn.{Waiting, meet}

abbrev pub from_at : List Link → ℕ → ℕ
from_at links k = (get_or links k no_link).from

abbrev pub to_at : List Link → ℕ → ℕ
to_at links k = (get_or links k no_link).to

-- the links that leave v, and those that enter it
unfoldable pub outgoing : List Link → ℕ → List ℕ
outgoing links v = keyed (from_at links) v (length links) 0

unfoldable pub incoming : List Link → ℕ → List ℕ
incoming links v = keyed (to_at links) v (length links) 0

-- where the links that leave v lead, in their order
unfoldable pub targets : List Link → ℕ → List ℕ
targets [] v = []
targets (l ∷ ls) v = elim (eqb l.from v) [ true ↦ l.to ∷ targets ls v | false ↦ targets ls v ]

-- where the links that enter v come from
unfoldable pub sources : List Link → ℕ → List ℕ
sources [] v = []
sources (l ∷ ls) v = elim (eqb l.to v) [ true ↦ l.from ∷ sources ls v | false ↦ sources ls v ]

-- the same from link k on, by index: what is left of a chain
unfoldable pub targets_from : List Link → ℕ → ℕ → List ℕ
targets_from links v k = map (to_at links) (keyed (from_at links) v (length links - k) k)

unfoldable pub sources_from : List Link → ℕ → ℕ → List ℕ
sources_from links v k = map (from_at links) (keyed (to_at links) v (length links - k) k)

-- links into each of a row of activities are met
unfoldable pub meet_all : List ℕ → Waiting → Waiting
meet_all [] s = s
meet_all (j ∷ js) s = meet_all js (meet j s)

-- the first of a row of activities that still waits; x where none does
unfoldable pub waiting_in : (ℕ → ℕ) → List ℕ → ℕ → ℕ
waiting_in c [] x = x
waiting_in c (y ∷ ys) x = elim (eqb (c y) 0) [ true ↦ waiting_in c ys x | false ↦ y ]
