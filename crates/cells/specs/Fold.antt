-- A step done for 0, 1, .. n - 1: what a loop leaves.
use Rattle.std.specs.Prelude.{ℕ, zero, suc}

unfoldable pub fold : {A : Type 0} → (A → ℕ → A) → ℕ → A → A
fold f zero x = x
fold f (suc n) x = f (fold f n x) n
