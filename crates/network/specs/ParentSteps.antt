-- The search for a loop of parents as a loop runs it: k steps are made, from 1 on and up to n.
use Rattle.std.specs.Prelude.{◌≡◌, ◌≢◌}
use Rattle.std.proofs.Math.Path.{refl, ap}
use Rattle.std.proofs.Common.{sym, ◌∙◌, add-one}
use Prim.Native.Nat.{ℕ, zero, suc, ◌+◌, ◌-◌, ◌≤◌, ◌<◌}
use native.Mathlib.Omega.{arith}
use Rattle.network.specs.Parents.{climb, steps_back, loop_steps}
use Rattle.network.specs.Climbing.{climb_end, steps_back_hit, steps_back_miss}

module _ (parent : ℕ → ℕ) (n i : ℕ) where
  pub steps_start : steps_back parent (n + 1 - 1) 1 i ≡ loop_steps parent n i
  unfolding loop_steps
  steps_start = ap (λ (f : ℕ). steps_back parent f 1 i) (omega arith)

  -- k steps lead back
  pub steps_hit : (k : ℕ) → k ≤ n → climb parent k i ≡ suc i → steps_back parent (n + 1 - k) k i ≡ k
  steps_hit k l e =
      let s : n + 1 - k ≡ suc (n - k) = omega arith in ap (λ (f : ℕ). steps_back parent f k i) s ∙ steps_back_hit parent (n - k) k i e

  -- they do not
  pub steps_miss : (k : ℕ) → k ≤ n → climb parent k i ≢ suc i → steps_back parent (n + 1 - k) k i ≡ steps_back parent (n + 1 - (k + 1)) (k + 1) i
  steps_miss k l e =
      let s : n + 1 - k ≡ suc (n + 1 - (k + 1)) = omega arith in
      ap (λ (f : ℕ). steps_back parent f k i) s ∙ steps_back_miss parent (n + 1 - (k + 1)) k i e
      ∙ ap (λ (m : ℕ). steps_back parent (n + 1 - (k + 1)) m i) (sym (add-one k))

  -- they lead to none, from which nothing leads back
  pub steps_none : (f k : ℕ) → climb parent k i ≡ 0 → steps_back parent f k i ≡ 0
  unfolding steps_back
  steps_none zero k e = refl
  steps_none (suc f) k e = steps_back_miss parent f k i (λ q. omega arith) ∙ steps_none f (suc k) (climb_end parent k i e)

  -- all n were made
  pub steps_end : (k : ℕ) → n < k → steps_back parent (n + 1 - k) k i ≡ 0
  unfolding steps_back
  steps_end k l = let s : n + 1 - k ≡ 0 = omega arith in ap (λ (f : ℕ). steps_back parent f k i) s
