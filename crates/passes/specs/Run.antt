-- The run: the passes one after the other, each over the order or its reverse.
use Rattle.std.specs.Prelude.{Bool, reverse, ℕ}
use Rattle.placing.specs.Placing.{via}
use Rattle.order.specs.Plan.{Plan}
use Rattle.order.specs.Checks.{order}
use Rattle.passes.specs.Plan.{origin}
use Rattle.passes.specs.Dates.{Early, Late, Freed, Pass, leaves, refused, after, through}
use Rattle.passes.specs.Forward.{left_below, forward}
use Rattle.passes.specs.Backward.{finish, end, backward}
use Rattle.passes.specs.Floats.{free_float, last_ones, on_path}

-- what the passes leave: the early dates after held late moves, the late dates, the free floats and the longest path
pub record Ran : Type 0 where
  pub early : Early
  pub late : Late
  pub free : ℕ → ℕ
  pub path : ℕ → Bool

module _ (p : Plan) where
  -- ---- stage by stage
  -- recorded dates placed and the work left found
  abbrev pub remaining : Pass (ℕ → ℕ)
  remaining = left_below p p.activities

  abbrev pub early₀ : (ℕ → ℕ) → Early
  early₀ left = record { es = λ i. origin p; ef = λ i. origin p; left = left }

  unfoldable pub forward_pass : (ℕ → ℕ) → Pass Early
  forward_pass left = through (forward p) (order p) (early₀ left)

  unfoldable pub backward_pass : Early → Pass Late
  backward_pass d = via refused (end p d) (λ e. through (backward p d e) (reverse (order p)) (record { ls = λ i. e; lf = λ i. e }))

  unfoldable pub free_pass : Early → Late → Pass Freed
  free_pass d l = through (free_float p (finish p d) l) (reverse (order p)) (record { early = d; free = λ i. 0 })

  -- the greatest finish as it was before held late moves, the dates as they are after them
  unfoldable pub path_pass : ℕ → Early → Pass (ℕ → Bool)
  path_pass f d = through (on_path p d) (reverse (order p)) (last_ones p d f)

  unfoldable pub run : Pass Ran
  run =
      after remaining
      (λ left. after (forward_pass left)
      (λ d. after (backward_pass d)
      (λ l. after (free_pass d l)
      (λ x. after (path_pass (finish p d) x.early) (λ path. leaves (record { early = x.early; late = l; free = x.free; path = path }))))))
