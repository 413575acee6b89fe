-- The turns of a loop whose step can refuse, and its invariant: what remains of it from here is what there was at the start.
use Rattle.std.specs.Prelude.{◌≡◌, refl, Bool, true, false}
use Rattle.std.proofs.Common.{sym, ap, ◌∙◌}
use Prim.Native.Nat.{ℕ, suc, ◌+◌, ◌-◌, ◌<◌, ◌≤◌}
use native.Mathlib.Omega.{arith}
use Rattle.cells.specs.Tried.{Out, out, tried}

module _ {W R : Type 0} (step : W → ℕ → Out W R) (on : R → Bool) (done : R) where
  pub tried_start : (n : ℕ) (w : W) → tried step on done (n - 0) 0 w ≡ tried step on done n 0 w
  tried_start n w = let e : n - 0 ≡ n = omega arith in rw e

  pub tried_end : (n i : ℕ) (w : W) → n ≤ i → tried step on done (n - i) i w ≡ out w done
  unfolding tried
  tried_end n i w h = let e : n - i ≡ 0 = omega arith in rw e

  pub tried_done : (n i : ℕ) (w : W) → i < n → on (step w i).answer ≡ true → tried step on done (n - i) i w ≡ tried step on done (n - (i + 1)) (i + 1) (step w i).work
  unfolding tried
  tried_done n i w h g = let e : n - i ≡ suc (n - (i + 1)) = omega arith in rw (e, g, tried)

  pub tried_stop : (n i : ℕ) (w : W) → i < n → on (step w i).answer ≡ false → tried step on done (n - i) i w ≡ step w i
  unfolding tried
  tried_stop n i w h g = let e : n - i ≡ suc (n - (i + 1)) = omega arith in rw (e, g, tried)

-- A pass over memory x: each step keeps one part of it, `keep`, and changes another, `view`, as the definition's step does.
module _ {X K W R : Type 0} (keep : X → K) (view : X → W) (step : K → W → ℕ → Out W R) (on : R → Bool) (done : R) (n : ℕ) where
  abbrev all : X → Out W R
  all x = tried (step (keep x)) on done n 0 (view x)

  -- p steps are done: x₀ was there at the start, x is there now
  pub record Passing (x₀ x : X) (p : ℕ) : Type 0 where
    pub within : p ≤ n
    pub kept : keep x ≡ keep x₀
    pub left : tried (step (keep x₀)) on done (n - p) p (view x) ≡ all x₀

  pub passing_start : (x : X) → Passing x x 0
  passing_start x = record { within = omega arith; kept = refl; left = tried_start (step (keep x)) on done n (view x) }

  module _ {x₀ x : X} {p : ℕ} (C : Passing x₀ x p) where
    module _ (h : p < n) (y : X) (r : R) (e : out (view y) r ≡ step (keep x) (view x) p) where
      same_step : out (view y) r ≡ step (keep x₀) (view x) p
      same_step = e ∙ ap (λ (k : K). step k (view x) p) C.kept

      pub passing_turn : keep y ≡ keep x → on r ≡ true → Passing x₀ y (p + 1)
      passing_turn k g = record {
        within = omega arith;
        kept = k ∙ C.kept;
        left =
            ap (λ (o : Out W R). tried (step (keep x₀)) on done (n - (p + 1)) (p + 1) o.work) same_step
            ∙ sym (tried_done (step (keep x₀)) on done n p (view x) h (ap (λ (o : Out W R). on o.answer) (sym same_step) ∙ g)) ∙ C.left;
      }

      pub passing_stop : on r ≡ false → out (view y) r ≡ all x₀
      passing_stop g = same_step ∙ sym (tried_stop (step (keep x₀)) on done n p (view x) h (ap (λ (o : Out W R). on o.answer) (sym same_step) ∙ g)) ∙ C.left

    pub passing_end : n ≤ p → out (view x) done ≡ all x₀
    passing_end h = sym (tried_end (step (keep x₀)) on done n p (view x) h) ∙ C.left
