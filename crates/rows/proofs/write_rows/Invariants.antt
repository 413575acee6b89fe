-- `rows::write_rows` meets its contract.
use mathlib.Core.Path.{◌≡◌}
use mathlib.Core.List.{◌++◌}
use Prim.Native.Nat.{◌*◌}
use lib.ListN.{length, drop}
use Rattle.memory.specs.Seen.{state}
use Rattle.order.specs.Plan.{plan_in}
use Rattle.rows.specs.Writing.{rows_in}
use Rattle.rows.proofs.write_rows.Given as goal

abbrev pub invariant-loop-i : goal.invariant-loop-i
invariant-loop-i g l =
    (length l.results ≡ length l.initial.results)
    × (l.results ≡ rows_in (plan_in l.sheet) (state (g.R.Reads.tables l.tables)) l.i ++ drop (15 * l.i) l.initial.results)
