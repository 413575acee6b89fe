-- The order as one array: what is out stands below h, the queue from h up to t.
use Rattle.std.specs.Prelude.{List, [], ◌∷◌, ℕ, zero, suc, ◌-◌, ◌≤◌, ◌<◌, min, ◌+◌, ◌≡◌}
use Rattle.network.specs.Links.{Link}
use Rattle.network.specs.Kahn.{Waiting, drain, ready, drained}
use Rattle.network.specs.Times.{times}
use Rattle.network.specs.Pending.{pending}
use Rattle.network.specs.Outgoing.{meet_all}
use Rattle.network.specs.Draining.{Behind}

-- what stands below h, the last one first
unfoldable pub out_of : (ℕ → ℕ) → ℕ → List ℕ
out_of order zero = []
out_of order (suc h) = order h ∷ out_of order h

-- the m that stand from h on
unfoldable pub span : (ℕ → ℕ) → ℕ → ℕ → List ℕ
span order h zero = []
span order h (suc m) = order h ∷ span order (suc h) m

-- the array's queue with counts of links still to be met
abbrev pub held : (ℕ → ℕ) → (ℕ → ℕ) → ℕ → ℕ → Waiting
held order count h t = record { count = count; queue = span order h (t - h) }

-- h are out, the queue reaches up to t, and of the last one's links those into `rest` are still to be met;
-- where that is none, it stands between two activities that come out
pub record Progress (links : List Link) (n : ℕ) (order count : ℕ → ℕ) (h t : ℕ) (rest : List ℕ) : Type 0 where
  pub within : h ≤ t
  pub each : (j : ℕ) → j < n → times j (out_of order t) + min 1 (count j) ≡ 1
  pub beyond : (j : ℕ) → n ≤ j → times j (out_of order t) + min 1 (count j) ≡ 0
  pub waits : (j : ℕ) → count j ≡ pending (out_of order h) links j + times j rest
  pub behind : Behind links (out_of order h)
  pub remains : drain links (n - h) (meet_all rest (held order count h t)).count (meet_all rest (held order count h t)).queue (out_of order h) ≡ drained links n

-- the activities below m that wait for none stand in the array, up to t
pub record Filled (count order : ℕ → ℕ) (m t : ℕ) : Type 0 where
  pub list : span order 0 t ≡ ready count m
