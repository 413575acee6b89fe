-- What holds all through Kahn's order: each activity is out, in the queue or waiting, and what is out stands behind all that it is linked to.
use Rattle.std.specs.Prelude.{◌≡◌}
use mathlib.Core.List.{List, [], ◌∷◌}
use Prim.Native.Nat.{ℕ, ◌<◌}
use Rattle.network.specs.Links.{Link, Linked}
use Rattle.network.specs.Times.{times}

-- an order, last first: all that leads to v stands behind it
pub data Behind (links : List Link) : List ℕ → Type 0 where
  none : Behind links []
  next : {v : ℕ} {out : List ℕ} → ((i : ℕ) → Linked links i v → 0 < times i out) → times v out ≡ 0 → Behind links out → Behind links (v ∷ out)
