-- `clock::weeks::WeekSums::weekday_at` meets its contract. Of the weekdays looked at `over` are over, and they are the first, since the sums rise.
use Prim.Native.Nat.{◌+◌, ◌≤◌, ◌<◌}
use lib.ListN.{get_or}
use Rattle.clock.proofs.weeks.WeekSums.weekday_at.Given as goal

abbrev pub invariant-loop-sum : goal.invariant-loop-sum
invariant-loop-sum l = (l.over ≤ l.sum-index) × (get_or l.self.entries l.over 0 ≤ l.y) × (l.over < l.sum-index → l.y < get_or l.self.entries (l.over + 1) 0)
