-- An activity's depth: the steps up after which there is none, one more for a child than for its parent.
use Rattle.std.specs.Prelude.{◌≡◌}
use Rattle.std.proofs.Math.Path.{refl}
use Rattle.std.proofs.Common.{sym, ap, ◌∙◌}
use Rattle.std.proofs.Math.Logic.{⊎_elim}
use Prim.Native.Nat.{ℕ, zero, suc, ◌-◌, ◌≤◌, ◌<◌}
use native.Mathlib.Omega.{arith}
use Rattle.number.specs.Order.{lt_or_le, zero_or_pos}
use Rattle.network.specs.Parents.{climb}
use Rattle.network.specs.ParentLinks.{steps_out, depth}
use Rattle.network.specs.Climbing.{pos_suc, climb_zero, climb_one, climb_first, climb_end}

module _ (parent : ℕ → ℕ) where
  -- d is the least number of steps up from i that leads to none
  pub record Deep (i d : ℕ) : Type 0 where
    pub ends : climb parent d i ≡ 0
    pub before : (k : ℕ) → k < d → 0 < climb parent k i

  pub deep_same : {i d e : ℕ} → Deep i d → Deep i e → d ≡ e
  deep_same {i} {d} {e} a b =
      ⊎_elim (λ l. absurd (omega (arith, a.ends, b.before d l)))
      (λ l. ⊎_elim (λ m. absurd (omega (arith, b.ends, a.before e m))) (λ m. omega arith) (lt_or_le e d)) (lt_or_le d e)

  deep_top : (i : ℕ) → parent i ≡ 0 → Deep i 1
  deep_top i z = record {
    ends = climb_one parent i ∙ z;
    before = λ k l. let e : k ≡ 0 = omega arith in rw e (omega (arith, climb_zero parent i));
  }

  deep_child : (i p d : ℕ) → parent i ≡ suc p → Deep p d → Deep i (suc d)
  deep_child i p d e a = record { ends = climb_first parent d i p e ∙ a.ends; before = go }
    where
      go : (k : ℕ) → k < suc d → 0 < climb parent k i
      go zero l = omega (arith, climb_zero parent i)
      go (suc k) l = omega (arith, climb_first parent k i p e, a.before k (omega arith))

  steps_out_none : (f : ℕ) → steps_out parent f 0 ≡ 0
  unfolding steps_out
  steps_out_none zero = refl
  steps_out_none (suc f) = refl

  steps_out_le : (f y : ℕ) → steps_out parent f y ≤ f
  unfolding steps_out
  steps_out_le zero y = omega arith
  steps_out_le (suc f) zero = omega arith
  steps_out_le (suc f) (suc i) = omega (arith, steps_out_le f (parent i))

  steps_out_deep : (f i : ℕ) → climb parent f i ≡ 0 → Deep i (steps_out parent f (suc i))
  unfolding steps_out
  steps_out_deep zero i e = absurd (omega (arith, climb_zero parent i))
  steps_out_deep (suc f) i e =
      ⊎_elim
      (λ (z : parent i ≡ 0).
      rw (ap (λ (y : ℕ). steps_out parent f y) z ∙ steps_out_none f) (deep_top i z))
      (λ (q : 0 < parent i).
      let s : parent i ≡ suc (parent i - 1) = pos_suc (parent i) q in
      rw (ap (λ (y : ℕ). steps_out parent f y) s)
      (deep_child i (parent i - 1) (steps_out parent f (suc (parent i - 1))) s
      (steps_out_deep f (parent i - 1) (sym (climb_first parent f i (parent i - 1) s) ∙ e)))) (zero_or_pos (parent i))

  -- where n steps lead from i to none
  pub depth_deep : (n i : ℕ) → climb parent n i ≡ 0 → Deep i (depth parent n i)
  unfolding depth
  depth_deep n i e = steps_out_deep n i e

  pub depth_le : (n i : ℕ) → depth parent n i ≤ n
  unfolding depth
  depth_le n i = steps_out_le n (suc i)

  pub depth_child : (n i p : ℕ) → climb parent n i ≡ 0 → parent i ≡ suc p → depth parent n i ≡ suc (depth parent n p)
  depth_child n i p z e =
      let y : climb parent n p ≡ 0 = sym (climb_first parent n i p e) ∙ climb_end parent n i z in
      deep_same (depth_deep n i z) (deep_child i p (depth parent n p) e (depth_deep n p y))

  pub depth_top : (n i : ℕ) → climb parent n i ≡ 0 → parent i ≡ 0 → depth parent n i ≡ 1
  depth_top n i z e = deep_same (depth_deep n i z) (deep_top i e)
