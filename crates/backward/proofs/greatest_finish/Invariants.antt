-- `backward::greatest_finish` meets its contract. The loop's invariant: `top` is the greatest of the first `i` activities.
use mathlib.Core.Path.{◌≡◌}
use Rattle.std.specs.Prelude.{IfSome}
use Prim.Native.Nat.{◌^◌, ◌<◌}
use Rattle.dates.specs.Columns.{early_in}
use Rattle.order.specs.Plan.{plan_in}
use Rattle.memory.specs.Seen.{state}
use Rattle.backward.specs.Finish.{Marked, past, greatest_one}
use Rattle.backward.proofs.greatest_finish.Given as goal

abbrev pub invariant-loop-i : goal.invariant-loop-i
invariant-loop-i g l =
    IfSome l.top (λ t. t < 2 ^ 63)
    × (Marked (plan_in l.sheet) (state (g.R.Reads.tables l.tables))
    → past l.top ≡ greatest_one (plan_in l.sheet) (early_in (plan_in l.sheet) (state (g.R.Reads.tables l.tables))) l.i)
