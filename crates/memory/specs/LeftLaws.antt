-- A walk along a chain: its end, and its next link.
use Rattle.std.specs.Prelude.{◌≡◌, List, [], ◌∷◌, ℕ, ◌+◌, ◌≤◌, ◌<◌, length}
use Rattle.std.proofs.Common.{sym, ap, ◌∙◌, arith}
use Rattle.cells.specs.Chain.{Stands}
use Rattle.cells.specs.ChainLaws.{after_end, after_hit}
use Rattle.memory.specs.State.{State}
use Rattle.memory.specs.Left.{left, Standing}

module _ {S : State} {t key next i k : ℕ} (W : Standing S t key next i k) where
  pub left_none : t ≤ k → left S t key i k ≡ []
  left_none h = after_end (S.link key) t i k h

  module _ {j : ℕ} (b : k < t) (e : j ≡ S.link next k) where
    then : Stands (S.link key) t i (k + 1) j
    then = rw (sym e, W.here.hits b) at (W.nexts k b)

    pub left_more : left S t key i k ≡ k ∷ left S t key i j
    left_more = after_hit (S.link key) t i k b (W.here.hits b) ∙ ap (λ (ks : List ℕ). k ∷ ks) then.rest

    pub left_fewer : length (left S t key i j) < length (left S t key i k)
    left_fewer = omega (arith, ap (λ (ks : List ℕ). length ks) left_more)
