-- The ids of a loop in the lent memory, one after another.
use Rattle.std.specs.Prelude.{◌≡◌, List, ℕ, ◌+◌, ◌<◌, length, get_or}
use Rattle.std.proofs.Common.{sym, ap, ◌∙◌, arith}
use Rattle.memory.specs.State.{State}
use Rattle.topology.specs.Loop.{loop_at}
use Rattle.order.specs.Checks.{named}
use Rattle.order.proofs.LoopLaws.{named_length, named_at}
use Rattle.checks.specs.Column.{LoopIn}

module _ (f : ℕ → ℕ) {a m : ℕ} {xs : List ℕ} {S : State} (L : LoopIn a m xs S) where
  pub loop_length : length (named f xs) ≡ m + 1
  loop_length = named_length f xs ∙ L.count

  pub loop_at_lem : (k i : ℕ) → k < m → i ≡ S.act loop_at k → f i ≡ get_or (named f xs) k 0
  loop_at_lem k i h e = ap f (e ∙ L.is k h) ∙ sym (named_at f xs k (omega (arith, L.count)))

  -- the first once more
  pub loop_again_at : (i : ℕ) → i ≡ S.act loop_at 0 → f i ≡ get_or (named f xs) m 0
  loop_again_at i e = ap f (e ∙ L.is 0 L.some ∙ sym L.closed) ∙ sym (named_at f xs m (omega (arith, L.count)))
