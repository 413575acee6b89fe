-- How many links lead where: the definitions that the proofs about Kahn's order count with.
use Rattle.std.specs.Prelude.{List, [], ◌∷◌, ℕ, zero, suc, ◌+◌, ◌-◌, ◌<◌, length, get_or}
use Rattle.network.specs.Links.{Link, no_link}
use Rattle.network.specs.Times.{same, times}

-- every link leads from and to an activity below n
pub record Ranged (links : List Link) (n : ℕ) : Type 0 where
  pub leaves : (k : ℕ) → k < length links → (get_or links k no_link).from < n
  pub enters : (k : ℕ) → k < length links → (get_or links k no_link).to < n

-- k where the test is not 0
unfoldable pub gate : ℕ → ℕ → ℕ
gate zero k = 0
gate (suc m) k = k

-- how many links lead from v to x
unfoldable pub sent : ℕ → List Link → ℕ → ℕ
sent v [] x = 0
sent v (l ∷ ls) x = gate (same x l.to) (same l.from v) + sent v ls x

-- how many links lead to x from what is not out
unfoldable pub pending : List ℕ → List Link → ℕ → ℕ
pending out [] x = 0
pending out (l ∷ ls) x = gate (same x l.to) (1 - times l.from out) + pending out ls x
