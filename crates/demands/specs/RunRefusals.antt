-- Every refusal of a pass is row 8, so those of the run and of the results.
use Rattle.std.specs.Prelude.{◌≡◌, refl}
use Prim.Native.Nat.{ℕ}
use Rattle.worktime.specs.Number.{clock_number}
use Rattle.order.specs.Plan.{Plan}
use Rattle.passes.specs.Dates.{Pass, leaves, refused}
use Rattle.passes.specs.Run.{Ran, run}
use Rattle.results.specs.Results.{results}
use Rattle.demands.specs.Refusals.{error_eight}

-- the refusal's number, and 8 where there is none
abbrev pub row_or8 : {A : Type 0} → Pass A → ℕ
row_or8 (leaves x) = 8
row_or8 (refused k) = clock_number k

pub record PassEight {A : Type 0} (x : Pass A) : Type 0 where
  pub is : row_or8 x ≡ 8

pub pass_eight : {A : Type 0} (x : Pass A) → PassEight x
pass_eight (leaves x) = record { is = refl }
pass_eight (refused k) = record { is = error_eight k }

pub run_eight : (p : Plan) → PassEight (run p)
run_eight p = pass_eight (run p)

pub results_eight : (p : Plan) (r : Ran) → PassEight (results p r)
results_eight p r = pass_eight (results p r)
