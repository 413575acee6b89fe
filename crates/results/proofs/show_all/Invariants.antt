-- `results::show_all` meets its contract.
use mathlib.Core.Path.{◌≡◌}
use Rattle.memory.specs.Seen.{state, SameSlice}
use Rattle.order.specs.Plan.{plan_in}
use Rattle.results.proofs.RowLaws.{Shows}
use Rattle.results.proofs.show_all.Given as goal

abbrev pub invariant-loop-i : goal.invariant-loop-i
invariant-loop-i l =
    SameSlice l.initial.tables l.tables × (l.project ≡ (plan_in l.plan.sheet).project)
    × Shows (plan_in l.plan.sheet) (state l.initial.tables) (state l.tables) l.i
