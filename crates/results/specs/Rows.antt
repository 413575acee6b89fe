-- The rows of results: 01's fifteen fields of each activity, in its order.
use Rattle.std.specs.Prelude.{true, false, List, [], ◌∷◌, ◌++◌, ℕ, zero, suc, ℤ, pos}
use Rattle.number.specs.Bit.{bit}
use Rattle.date.specs.Days.{unbiased, signed_minute}
use Rattle.order.specs.Plan.{Plan}
use Rattle.order.specs.Ids.{id_of, summary}
use Rattle.passes.specs.Plan.{recorded}
use Rattle.passes.specs.Floats.{in_days}
use Rattle.passes.specs.Run.{Ran}
use Rattle.results.specs.declared.Shown.{Shown}
use Rattle.results.specs.Results.{status_number}

-- a day as 01 counts it
abbrev pub signed_day_of : ℕ → ℤ
signed_day_of d = unbiased d

module _ (p : Plan) (r : Ran) (f : ℕ → Shown) where
  -- "0 for summaries"
  unfoldable pub minute_of : ℕ → ℕ → ℤ
  minute_of i t = elim (summary p i) [ true ↦ pos 0 | false ↦ signed_minute t ]

  unfoldable pub row_of : ℕ → List ℤ
  row_of i =
      pos (id_of p i) ∷ signed_day_of (f i).days.es ∷ signed_day_of (f i).days.ef ∷ signed_day_of (f i).days.ls ∷ signed_day_of (f i).days.lf ∷ in_days p i (f i).total
      ∷ in_days p i (pos (f i).free) ∷ (f i).total ∷ pos (f i).free ∷ pos (bit (f i).critical) ∷ pos (bit (f i).path)
      ∷ pos (status_number (recorded p i)) ∷ pos (r.early.left i) ∷ minute_of i (r.early.es i) ∷ minute_of i (r.early.ef i) ∷ []

  unfoldable pub rows_below : ℕ → List ℤ
  rows_below zero = []
  rows_below (suc n) = rows_below n ++ row_of n
