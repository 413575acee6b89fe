-- The longest path as code takes it: where a link's bound places its successor, and one link's turn in the walk along the links into an activity.
use Rattle.std.specs.Prelude.{Bool, true, false, ℕ, Result, Ok, Err}
use Rattle.worktime.specs.declared.ClockError.{ClockError}
use Rattle.placing.specs.Placing.{via, place_start}
use Rattle.order.specs.Plan.{Plan}
use Rattle.passes.specs.Plan.{own, tie, kind_of}
use Rattle.passes.specs.Dates.{Early, Pass, refused, put}
use Rattle.passes.specs.Forward.{link_bound, start_for}
use Rattle.passes.specs.Floats.{drives}

-- what follows the answer whether a link sets the start of its successor
abbrev pub driven : Result Bool ClockError → (Bool → Pass (ℕ → Bool)) → Pass (ℕ → Bool)
driven (Ok b) go = go b
driven (Err k) go = refused k

module _ (p : Plan) (d : Early) (i : ℕ) where
  -- where the bound of link t places activity i
  unfoldable pub bound_start : ℕ → Result ℕ ClockError
  bound_start t =
      via Err (link_bound p d t)
      (λ b. via Err (start_for p i (d.left i) (tie p t).kind b) (place_start (own p i) (kind_of p i)))

  -- link t in its turn: its predecessor is marked if it sets the start of i
  abbrev pub marks : (ℕ → Bool) → ℕ → ((ℕ → Bool) → Pass (ℕ → Bool)) → Pass (ℕ → Bool)
  marks on t go = drives p d i t (λ b. go (elim b [ true ↦ put on (tie p t).from true | false ↦ on ]))
