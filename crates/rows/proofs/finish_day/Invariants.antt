-- `rows::finish_day` meets its contract: `d` is the finish day of the first i activities.
use mathlib.Core.Path.{◌≡◌}
use Prim.Native.Nat.{◌^◌, ◌<◌}
use Rattle.memory.specs.Seen.{state}
use Rattle.order.specs.Plan.{plan_in}
use Rattle.passes.specs.Run.{Ran}
use Rattle.results.specs.Results.{finish_day}
use Rattle.results.specs.View.{shown_in}
use Rattle.rows.proofs.finish_day.Given as goal

abbrev pub invariant-loop-i : goal.invariant-loop-i
invariant-loop-i g l =
    (l.d < 2 ^ 63)
    × ((q : Ran) → l.d ≡ finish_day (plan_in l.sheet) q (shown_in (plan_in l.sheet) (state (g.R.Reads.tables l.tables))) l.i)
