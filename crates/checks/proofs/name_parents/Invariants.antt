-- `checks::name_parents` meets its contract: after k steps k + 1 names are written, and i is the activity k steps up.
use mathlib.Core.Path.{◌≡◌}
use Prim.Native.Nat.{◌+◌, ◌-◌, ◌<◌}
use lib.ListN.{length}
use Rattle.network.specs.Parents.{climb, upward}
use Rattle.order.specs.Plan.{plan_in}
use Rattle.order.specs.Ids.{id_of, parent_of}
use Rattle.order.specs.Checks.{named}
use Rattle.checks.specs.NameLaws.{Naming}
use Rattle.checks.proofs.name_parents.Given as goal

abbrev pub invariant-loop-k : goal.invariant-loop-k
invariant-loop-k l =
    (l.steps < length l.initial.names) × (l.i ≡ climb (parent_of (plan_in l.sheet)) l.k l.first - 1)
    × Naming (named (id_of (plan_in l.sheet)) (upward (parent_of (plan_in l.sheet)) l.steps l.first)) (length l.initial.names) l.names (l.k + 1)
