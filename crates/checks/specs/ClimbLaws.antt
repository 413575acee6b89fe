-- The activities above the first of a loop of parents, one step after another.
use Rattle.std.specs.Prelude.{◌≡◌, ℕ, ◌+◌, ◌-◌, ◌≤◌, ◌<◌, length, get_or, List}
use Rattle.std.proofs.Common.{sym, ap, ◌∙◌, arith, add-one}
use Rattle.network.specs.Parents.{climb, upward}
use Rattle.network.specs.Climbing.{climb_zero, climb_next, climb_pos, climb_le}
use Rattle.network.proofs.ParentLoops.{loop_steps_back}
use Rattle.network.proofs.ParentRows.{length_upward, upward_at}
use Rattle.order.specs.Plan.{Plan}
use Rattle.order.specs.Ids.{id_of, parent_of}
use Rattle.order.specs.Checks.{named}
use Rattle.order.specs.FineLaws.{ParentsKnown}
use Rattle.order.specs.ParentLaws.{parent_le}
use Rattle.order.proofs.LoopLaws.{named_length, named_at}
use Rattle.ids.specs.Summaries.{LoopFrom}

module _ (p : Plan) (K : ParentsKnown p) (first steps : ℕ) (L : LoopFrom p first steps) where
  -- k steps up
  abbrev pub up_at : ℕ → ℕ
  up_at k = climb (parent_of p) k first - 1

  -- the names of the loop
  abbrev pub parent_names : List ℕ
  parent_names = named (id_of p) (upward (parent_of p) steps first)

  climb_some : (k : ℕ) → k ≤ steps → 0 < climb (parent_of p) k first
  climb_some k h =
      climb_pos (parent_of p) k steps first h
      (omega (arith, loop_steps_back (parent_of p) p.activities first (omega (arith, L.some, L.least)), ap (λ (m : ℕ). climb (parent_of p) m first) L.least))

  pub up_first : first ≡ up_at 0
  up_first = omega (arith, climb_zero (parent_of p) first)

  pub up_below : (k : ℕ) → k ≤ steps → up_at k < p.activities
  up_below k h = omega (arith, climb_some k h, climb_le (parent_of p) (parent_le p K) k first L.below)

  -- the parent of the k-th is one more than the one after it
  pub up_parent : (k : ℕ) → k < steps → parent_of p (up_at k) ≡ up_at (k + 1) + 1
  up_parent k h =
      let e : climb (parent_of p) (k + 1) first ≡ parent_of p (up_at k) =
      ap (λ (m : ℕ). climb (parent_of p) m first) (add-one k) ∙ climb_next (parent_of p) k first (up_at k) (omega (arith, climb_some k (omega arith))) in
      omega (arith, climb_some (k + 1) (omega arith))

  pub names_length : length parent_names ≡ steps + 1
  names_length = named_length (id_of p) (upward (parent_of p) steps first) ∙ length_upward (parent_of p) steps first

  pub names_at : (k : ℕ) → k ≤ steps → id_of p (up_at k) ≡ get_or parent_names k 0
  names_at k h =
      sym (named_at (id_of p) (upward (parent_of p) steps first) k (omega (arith, length_upward (parent_of p) steps first))
      ∙ ap (id_of p) (upward_at (parent_of p) steps first k h))
