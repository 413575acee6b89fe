-- `clock::weeks::WeekSums::of` meets its contract. The sums of the first `k` weekdays are found.
use mathlib.Core.Path.{◌≡◌}
use mathlib.Core.List.{[]}
use Prim.Native.Nat.{ℕ, ◌≤◌, ◌<◌, ◌+◌, ◌*◌}
use lib.ListN.{length, get_or}
use Rattle.calendar.specs.Hours.{rank}
use Rattle.clock.proofs.weeks.WeekSums.of.Given as goal

abbrev pub invariant-loop-k : goal.invariant-loop-k
invariant-loop-k l =
    (l.k ≤ 7) × (length l.entries ≡ 8) × (get_or l.entries 0 0 ≡ 0) × ((j : ℕ) → j < l.k → get_or l.entries (j + 1) 0 ≡ get_or l.entries j 0 + rank (get_or l.week j []) 1440) × (get_or l.entries l.k 0 ≤ 1440 * l.k)
