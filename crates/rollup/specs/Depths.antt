-- The depth of each summary in its row, and 0 for the others.
use Rattle.std.specs.Prelude.{◌≡◌, true, false, ℕ, ◌<◌, eqb}
use Rattle.memory.specs.State.{State}
use Rattle.memory.specs.Fields.{parent, is_summary, depth_of}
use Rattle.network.specs.ParentLinks.{depth}

unfoldable pub depth_key : State → ℕ → ℕ → ℕ
depth_key S a i = elim (eqb (S.act is_summary i) 0) [ true ↦ 0 | false ↦ depth (S.act parent) a i ]

-- the first n have theirs
abbrev pub DepthsTo : State → State → ℕ → ℕ → Type 0
DepthsTo S₀ S a n = (i : ℕ) → i < n → S.act depth_of i ≡ depth_key S₀ a i
