-- The climb from an activity to its parents as a loop runs it: k steps are made and lead to `up`.
use Rattle.std.specs.Prelude.{◌≡◌, ◌≢◌}
use Rattle.std.proofs.Math.Path.{refl, sym, ap}
use Rattle.std.proofs.Common.{◌∙◌, add-one}
use Rattle.std.proofs.Math.Logic.{⊎_elim}
use Prim.Native.Nat.{ℕ, zero, suc, ◌+◌, ◌-◌, ◌≤◌, ◌<◌}
use native.Mathlib.Omega.{arith}
use Rattle.number.specs.Order.{eq_or_ne}
use Rattle.network.specs.Parents.{above, climb, steps_back, loop_steps}
use Rattle.network.specs.ParentSteps.{steps_start, steps_hit, steps_miss, steps_none, steps_end}
use Rattle.network.specs.Climbing.{steps_back_hit, steps_back_miss}

-- ---- one function of parents
module _ (parent : ℕ → ℕ) (n i : ℕ) where
  pub record Climb (up k : ℕ) : Type 0 where
    pub low : up ≤ n
    pub is : up ≡ climb parent k i
    pub left : steps_back parent (n + 1 - k) k i ≡ loop_steps parent n i

  above_some : (j : ℕ) → above parent (j + 1) ≡ parent j
  unfolding above
  above_some j = ap (above parent) (add-one j)

  climb_one : climb parent 1 i ≡ parent i
  unfolding climb above
  climb_one = refl

  climb_more : (k : ℕ) → climb parent (k + 1) i ≡ above parent (climb parent k i)
  unfolding climb
  climb_more k = ap (λ (m : ℕ). climb parent m i) (add-one k)

  pub climb_start : ((j : ℕ) → j < n → parent j ≤ n) → i < n → (up : ℕ) → up ≡ parent i → Climb up 1
  climb_start within l up e = record {
    low = omega (arith, within i l);
    is = e ∙ sym climb_one;
    left = steps_start parent n i;
  }

  module _ (up k : ℕ) (C : Climb up k) where
    pub climb_none : up ≡ 0 → 0 ≡ loop_steps parent n i
    climb_none z = sym (steps_none parent n i (n + 1 - k) k (sym C.is ∙ z)) ∙ C.left

    module _ (j : ℕ) (at : up ≡ j + 1) where
      pub climb_back : k ≤ n → j ≡ i → k ≡ loop_steps parent n i
      climb_back l e = sym (steps_hit parent n i k l (omega (arith, C.is))) ∙ C.left

      pub climb_turn : ((j : ℕ) → j < n → parent j ≤ n) → k ≤ n → j ≢ i → (next : ℕ) → next ≡ parent j → Climb next (k + 1)
      climb_turn within l other next e = record {
        low = omega (arith, within j (omega (arith, C.low)));
        is = e ∙ sym (above_some j) ∙ ap (above parent) (sym at ∙ C.is) ∙ sym (climb_more k);
        left = sym (steps_miss parent n i k l (λ q. other (omega (arith, C.is)))) ∙ C.left;
      }

    pub climb_end : n < k → 0 ≡ loop_steps parent n i
    climb_end l = sym (steps_end parent n i k l) ∙ C.left

-- ---- two that agree on n activities
module _ (parent other : ℕ → ℕ) (n : ℕ) (within : (j : ℕ) → j < n → parent j ≤ n) (same : (j : ℕ) → j < n → parent j ≡ other j) (i : ℕ) (l : i < n) where
  above_same : (up : ℕ) → up ≤ n → (above parent up ≡ above other up) × (above parent up ≤ n)
  unfolding above
  above_same zero b = (refl, omega arith)
  above_same (suc j) b = (same j (omega arith), within j (omega arith))

  climb_same : (k : ℕ) → (climb parent k i ≡ climb other k i) × (climb parent k i ≤ n)
  unfolding climb
  climb_same zero = (refl, omega arith)
  climb_same (suc k) =
      let r = climb_same k in
      let s = above_same (climb parent k i) r.1 in
      (s.0 ∙ ap (above other) r.0, s.1)

  back_same : (f k : ℕ) → steps_back parent f k i ≡ steps_back other f k i
  unfolding steps_back
  back_same zero k = refl
  back_same (suc f) k =
      let e = (climb_same k).0 in
      ⊎_elim (λ (h : climb parent k i ≡ suc i). steps_back_hit parent f k i h ∙ sym (steps_back_hit other f k i (sym e ∙ h)))
      (λ (h : climb parent k i ≢ suc i). steps_back_miss parent f k i h ∙ back_same f (suc k) ∙ sym (steps_back_miss other f k i (λ q. h (e ∙ q))))
      (eq_or_ne (climb parent k i) (suc i))

  pub loop_steps_same : loop_steps parent n i ≡ loop_steps other n i
  unfolding loop_steps
  loop_steps_same = back_same n 1
