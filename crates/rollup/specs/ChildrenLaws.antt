-- A walk along the children of a summary: its end, and its next child.
use Rattle.std.specs.Prelude.{◌≡◌, List, [], ◌∷◌, ℕ, suc, ◌+◌, ◌≤◌, ◌<◌, length}
use Rattle.std.proofs.Common.{sym, ap, ◌∙◌, arith}
use Rattle.cells.specs.Chain.{after, Stands}
use Rattle.cells.specs.ChainLaws.{after_end, after_hit}
use Rattle.memory.specs.State.{State}
use Rattle.memory.specs.Fields.{parent, next_child}
use Rattle.rollup.specs.Children.{Standing}

module _ {S : State} {a s k : ℕ} (W : Standing S a s k) where
  pub children_none : a ≤ k → after (S.act parent) a (suc s) k ≡ []
  children_none h = after_end (S.act parent) a (suc s) k h

  module _ {j : ℕ} (b : k < a) (e : j ≡ S.act next_child k) where
    then : Stands (S.act parent) a (suc s) (k + 1) j
    then = rw (sym e, W.here.hits b) at (W.nexts k b (omega (arith, W.here.hits b)))

    pub children_more : after (S.act parent) a (suc s) k ≡ k ∷ after (S.act parent) a (suc s) j
    children_more = after_hit (S.act parent) a (suc s) k b (W.here.hits b) ∙ ap (λ (ks : List ℕ). k ∷ ks) then.rest

    pub children_fewer : length (after (S.act parent) a (suc s) j) < length (after (S.act parent) a (suc s) k)
    children_fewer = omega (arith, ap (λ (ks : List ℕ). length ks) children_more)
