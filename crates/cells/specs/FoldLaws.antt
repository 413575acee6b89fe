-- The turns of a loop that does a step for 0, 1, .. n - 1, and what every turn keeps.
use Rattle.std.specs.Prelude.{◌≡◌}
use Rattle.std.proofs.Math.Path.{refl, ap}
use Rattle.std.proofs.Common.{◌∙◌, add-one, arith}
use Prim.Native.Nat.{ℕ, zero, suc, ◌+◌, ◌<◌}
use Rattle.cells.specs.Fold.{fold}

module _ {A : Type 0} (f : A → ℕ → A) where
  pub fold_none : (x : A) → x ≡ fold f 0 x
  unfolding fold
  fold_none x = refl

  -- one more, at the code's n + 1
  pub fold_more : (n : ℕ) (x : A) → f (fold f n x) n ≡ fold f (n + 1) x
  unfolding fold
  fold_more n x = rw (add-one n)

  -- what each of n turns keeps, the loop keeps
  pub fold_keeps : (P : A → Type 0) (n : ℕ) → ((x : A) (i : ℕ) → i < n → P x → P (f x i)) → (x : A) → P x → P (fold f n x)
  unfolding fold
  fold_keeps P zero h x p = p
  fold_keeps P (suc n) h x p = h (fold f n x) n (omega arith) (fold_keeps P n (λ y i l. h y i (omega arith)) x p)

  -- a view that sees each turn as a step of its own sees the loop as the loop of those steps
  pub fold_view : {B : Type 0} (v : A → B) (g : B → ℕ → B) (n : ℕ) → ((x : A) (i : ℕ) → i < n → v (f x i) ≡ g (v x) i) → (x : A) → v (fold f n x) ≡ fold g n (v x)
  unfolding fold
  fold_view v g zero h x = refl
  fold_view v g (suc n) h x = h (fold f n x) n (omega arith) ∙ ap (λ (b : _). g b n) (fold_view v g n (λ y i l. h y i (omega arith)) x)
