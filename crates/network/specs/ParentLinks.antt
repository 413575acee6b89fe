-- Parents as links, the first activity on a loop of parents with that loop, and an activity's depth.
use Rattle.std.specs.Prelude.{List, [], ◌∷◌, ◌++◌, ℕ, zero, suc, ◌<◌}
use Rattle.network.specs.Links.{Link}
use Rattle.network.specs.Kahn.{first_waiting}
use Rattle.network.specs.Parents.{OnLoop, loop_steps, upward}

-- from activity i to its parent, one more than whose number is given, if it has one
unfoldable pub to_parent : ℕ → ℕ → List Link
to_parent i zero = []
to_parent i (suc p) = record { from = i; to = p } ∷ []

-- from each of n activities to its parent
unfoldable pub parent_links : (ℕ → ℕ) → ℕ → List Link
parent_links parent zero = []
parent_links parent (suc n) = parent_links parent n ++ to_parent n (parent n)

-- "parents close a loop": one of n activities lies on a loop of parents
abbrev pub ParentsLoop : (ℕ → ℕ) → ℕ → Type 0
ParentsLoop parent n = (i : ℕ) × (i < n) × OnLoop parent i

-- the first of n activities that lies on a loop of parents; n where none does
unfoldable pub first_on_loop : (ℕ → ℕ) → ℕ → ℕ
first_on_loop parent n = first_waiting [] (loop_steps parent n) n 0

-- its loop, from it upward
unfoldable pub parent_loop : (ℕ → ℕ) → ℕ → List ℕ
parent_loop parent n = let i = first_on_loop parent n in upward parent (loop_steps parent n i) i

-- the least number of steps up, at most f, that leads to none; what is climbed from is one more than an activity's number, or 0 for none
unfoldable pub steps_out : (ℕ → ℕ) → ℕ → ℕ → ℕ
steps_out parent zero y = 0
steps_out parent (suc f) zero = 0
steps_out parent (suc f) (suc i) = suc (steps_out parent f (parent i))

-- how deep activity i of n lies: 1 where it has no parent
unfoldable pub depth : (ℕ → ℕ) → ℕ → ℕ → ℕ
depth parent n i = steps_out parent n (suc i)
